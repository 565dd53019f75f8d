mod KeptAnswers
mod Calls
mod Sizes
mod Firings
mod Preparing
mod Examples
pub mod RowOrders
