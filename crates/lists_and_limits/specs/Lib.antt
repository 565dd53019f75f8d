pub mod Cuts
pub mod Decimals
pub mod Limits
pub mod Lists
pub mod Orders
pub mod Walks
