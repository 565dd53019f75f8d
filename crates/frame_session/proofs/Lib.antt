mod Replying
mod Stepping
mod Rounding
mod Between
mod Turning
mod Fetching
mod PlacedSeats
