pub mod Drill
pub mod Choices
