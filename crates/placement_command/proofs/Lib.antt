pub mod Crashes
pub mod Kept
mod Counts
