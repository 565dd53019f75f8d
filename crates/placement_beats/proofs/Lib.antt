pub mod Fits
pub mod Shorts
pub mod Folds
pub mod Laws
pub mod Turns
