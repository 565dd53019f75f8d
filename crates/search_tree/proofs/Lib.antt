pub mod Cuts
pub mod Runs
mod Tops
