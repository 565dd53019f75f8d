pub mod Reading
pub mod Records
pub mod Told
pub mod Transactions
