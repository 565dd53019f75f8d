pub mod Links
pub mod Causes
pub mod Watch
pub mod Stopped
pub mod Passes
pub mod Works
