pub mod Checks
pub mod Entries
pub mod Prepared
pub mod Orders
