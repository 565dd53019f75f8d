pub mod Rounds
pub mod Sessions
