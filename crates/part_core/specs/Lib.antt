pub mod Actors
pub mod Quiet
