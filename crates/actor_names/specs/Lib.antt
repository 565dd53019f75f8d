pub mod Names
pub mod Addresses
pub mod Reads
pub mod Numerals
pub mod Padding
pub mod NameLengths
pub mod Same
pub mod Forms
