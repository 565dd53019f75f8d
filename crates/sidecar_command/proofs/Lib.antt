pub mod Served
mod Starts
