pub mod Texts
pub mod Servings
pub mod Routings
mod OwnerTexts
mod PeerReads
mod Shown
mod Causes
mod Completed
pub mod Acting
pub mod Tries
pub mod Forwards
mod ForwardCauses
