mod Examples
pub mod Found
pub mod Texts
pub mod Written
