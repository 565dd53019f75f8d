pub mod Lease
pub mod Book
pub mod Books
pub mod Causes
pub mod Leased
