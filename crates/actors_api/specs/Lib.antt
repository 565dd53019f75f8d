pub mod Actions
pub mod Commands
pub mod Owners
pub mod Parts
pub mod Paths
pub mod Reading
pub mod Refusals
pub mod Responses
