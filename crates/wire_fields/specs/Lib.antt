pub mod Fields
pub mod Gives
pub mod Names
pub mod Parts
pub mod Records
