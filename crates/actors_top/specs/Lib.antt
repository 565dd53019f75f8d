pub mod Ran
pub mod Server
pub mod Sidecar
