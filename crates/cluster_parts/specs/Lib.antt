pub mod CallIndex
pub mod Layout
pub mod Views
