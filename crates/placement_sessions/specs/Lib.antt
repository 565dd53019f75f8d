pub mod Routes
pub mod States
pub mod Laws
pub mod Placements
pub mod StateTexts
pub mod StateTurns
pub mod StateSessions
