mod Beats
mod Durable
pub mod Ordered
mod Orders
mod Recorded
mod Refusals
mod Replays
mod Restored
mod Rows
mod Searched
pub mod Settling
pub mod Sound
pub mod Spaces
mod Steps
