pub mod DecimalTexts
pub mod Each
pub mod Elements
pub mod Fronts
pub mod Maps
pub mod Orders
pub mod Walks
mod Digits
mod Examples
mod Rows
