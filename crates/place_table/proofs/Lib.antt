pub mod PointOrder
pub mod Owners
pub mod RingSteps
pub mod Picks
pub mod TableOwners
pub mod PointSearch
pub mod SlotOrder
pub mod Halving
pub mod RingBuilds
pub mod NodeOrder
pub mod Moves
pub mod Causes
mod Examples
pub mod HostEquality
