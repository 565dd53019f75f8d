pub mod Entries
pub mod Book
pub mod Soonest
pub mod Changes
pub mod Machine
