pub mod World
pub mod Interner
pub mod TypesTold
pub mod WorldTold
pub mod Steps
pub mod Runs
pub mod TurnsTold
