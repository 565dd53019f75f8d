mod Rows
pub mod Basics
pub mod Filters
pub mod RoomSteps
pub mod PartKeeps
pub mod Joins
pub mod Rounds
pub mod Places
pub mod Messages
pub mod Boots
pub mod Named
pub mod SpaceParts
pub mod Lines
mod Forgets
mod Acks
pub mod Worlds
pub mod Histories
pub mod Openings
pub mod Runs
pub mod Isolation
pub mod Clusters
pub mod Memories
pub mod Bootings
pub mod Growths
pub mod Counts
pub mod PartCalls
pub mod AskedLines
pub mod Askings
pub mod AskedRuns
pub mod Endings
pub mod Balances
mod TargetRows
mod RoundSteps
mod Sendings
pub mod Targets
