pub mod Lanes
pub mod Entries
pub mod Replies
pub mod Book
pub mod Machine
pub mod Histories
pub mod Turns
pub mod Orders
