mod Carryings
mod Examples
mod Fitting
mod Starts
mod Tries
