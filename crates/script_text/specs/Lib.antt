pub mod Lines
pub mod Reading
pub mod SoloLines
pub mod ClusterWords
pub mod ClusterLines
pub mod Told
pub mod LinesTold
