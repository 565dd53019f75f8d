pub mod Sessions
mod Kept
