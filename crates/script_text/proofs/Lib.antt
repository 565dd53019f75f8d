pub mod LineLemmas
pub mod NumberLemmas
pub mod CountLemmas
pub mod PieceLemmas
pub mod Late
pub mod Rows
