pub mod Codes
pub mod Reading
pub mod Texts
pub mod Values
pub mod Views
pub mod Written
