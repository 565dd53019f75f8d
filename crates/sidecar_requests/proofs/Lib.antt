mod Held
mod Causes
mod Examples
mod Requests
mod Events
mod Sessions
