pub mod Asks
pub mod Outcomes
pub mod Serving
pub mod Causes
pub mod Requests
pub mod Events
pub mod Sessions
