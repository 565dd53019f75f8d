pub mod VersionLemmas
pub mod Rows
