pub mod Elements
mod Examples
pub mod Loops
pub mod Utf8
