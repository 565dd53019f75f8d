pub mod Booting
pub mod Configuring
pub mod Ends
pub mod Starting
pub mod Tries
