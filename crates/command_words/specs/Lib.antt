pub mod Options
pub mod Counts
pub mod Reading
pub mod Told
pub mod Commands
pub mod Given
pub mod Seated
