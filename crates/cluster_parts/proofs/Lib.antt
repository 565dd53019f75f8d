mod Blocks
mod CallNumbers
mod Counts
mod Makings
mod Members
pub mod Scans
pub mod Steps
