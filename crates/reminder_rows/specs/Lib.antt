pub mod Reminders
pub mod Filing
pub mod Orders
