pub mod Beats
mod Books
pub mod Durable
mod Giving
pub mod Hosts
pub mod Memory
pub mod Openings
pub mod Parts
mod Pending
pub mod Reached
pub mod Replays
mod Rows
pub mod Settling
pub mod Sound
pub mod Tables
pub mod Types
pub mod Versions
