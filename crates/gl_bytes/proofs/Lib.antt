mod Nearby
mod Sameness
