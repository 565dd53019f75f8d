pub mod LineLemmas
pub mod SetupLemmas
pub mod RunLemmas
pub mod EndLemmas
pub mod RunTold
mod BegunParts
mod BegunNumbers
mod BegunLines
mod BegunPolls
mod BegunRuns
mod BegunRows
mod Named
pub mod Headlines
pub mod Rows
pub mod Moments
pub mod ScheduleRows
