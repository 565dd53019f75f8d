mod Rows
pub mod Losses
pub mod Honest
pub mod Waits
pub mod Begins
pub mod Sizes
pub mod Ways
