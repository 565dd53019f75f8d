pub mod Sessions
pub mod Taking
pub mod Standbys
pub mod Images
