mod Places
mod Steps
mod Examples
