pub mod Exchanges
pub mod AtStepGate
pub mod AtGroupGate
pub mod Rounds
pub mod Turns
pub mod Sessions
