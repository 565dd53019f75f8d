pub mod Places
pub mod Makings
pub mod Actings
pub mod Joins
pub mod Stops
pub mod Givings
pub mod Beginning
pub mod News
mod Examples
