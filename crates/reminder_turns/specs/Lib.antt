pub mod Callbacks
pub mod Outcomes
pub mod Reports
pub mod Runs
pub mod Pages
pub mod Laws
