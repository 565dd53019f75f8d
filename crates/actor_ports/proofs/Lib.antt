mod Examples
mod Known
mod Moments
mod Taken
