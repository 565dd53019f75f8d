pub mod Rows
pub mod Entries
pub mod Turns
pub mod Rounds
pub mod Nodes
