pub mod Dues
pub mod Tables
pub mod Rows
pub mod Restored
pub mod Ordered
pub mod Contents
pub mod Prepared
pub mod Runs
