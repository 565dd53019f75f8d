pub mod Kept
pub mod Lanes
pub mod Stamps
pub mod Orders
pub mod Prepared
pub mod Restores
pub mod Runs
