pub mod Ascending
mod Backed
mod Boots
mod Counts
mod Lateness
pub mod Places
mod Rosters
