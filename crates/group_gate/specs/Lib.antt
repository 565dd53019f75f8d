pub mod History
pub mod Kept
pub mod Turns
pub mod Gates
