pub mod Epochs
pub mod Fences
pub mod Events
pub mod Together
pub mod Reopening
pub mod Runs
pub mod Groups
