pub mod KeyOrders
pub mod Elements
pub mod Orders
pub mod Forks
pub mod Changes
pub mod Sizes
pub mod CellLaws
pub mod CellCalls
pub mod PartOrders
pub mod Limits
pub mod PartWrites
pub mod PartSteps
pub mod PartTables
pub mod Replays
pub mod CallReplays
pub mod PartReplays
pub mod PartTells
pub mod PartLaws
pub mod PartTurns
pub mod PartBegins
pub mod Collects
mod Rows
mod LawRows
