pub mod Others
pub mod ByClock
pub mod Turns
pub mod Follows
mod Sounds
