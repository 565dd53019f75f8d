pub mod Bodies
pub mod Cuts
mod Examples
pub mod Fields
pub mod Utf8
