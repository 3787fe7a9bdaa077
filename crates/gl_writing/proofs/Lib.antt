pub mod Mentions
pub mod ReadAgain
pub mod Renumbering
pub mod Retold
pub mod Saying
pub mod ToldAgain
pub mod WrittenTexts
