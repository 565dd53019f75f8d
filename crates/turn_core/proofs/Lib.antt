mod CellBounds
pub mod Once
mod MovedQueue
pub mod Places
pub mod Elements
pub mod Overlaps
pub mod CellSteps
pub mod CellKeeps
pub mod CellRuns
pub mod FreshCalls
pub mod Presence
pub mod Leaves
pub mod Joins
mod Rows
