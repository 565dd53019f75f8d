pub mod Calls
pub mod Placed
pub mod Keeping
pub mod Writes
pub mod SlotPasses
pub mod Settled
