pub mod Listed
pub mod Places
pub mod Members
pub mod Book
pub mod Roster
