mod Examples
mod FirstForms
mod InPieces
pub mod Acts
pub mod Written
pub mod RowLaws
pub mod Readings
pub mod ReadFits
pub mod Fitting
pub mod Snapshots
mod OldBoots
pub mod Keeping
pub mod Outcomes
pub mod Answering
pub mod Telling
