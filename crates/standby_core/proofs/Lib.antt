mod Examples
pub mod Replicated
pub mod Told
mod Mirrored
mod Attached
