pub mod Bodies
pub mod Configs
pub mod Escapes
mod Examples
pub mod FieldLines
pub mod Found
pub mod Listed
pub mod Messages
