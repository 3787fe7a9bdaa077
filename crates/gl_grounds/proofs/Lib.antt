pub mod FirstPlaces
pub mod ModelSteps
pub mod NextFlagged
pub mod PassageSteps
pub mod RunnerSteps
pub mod SpanLists
pub mod SpanSteps
