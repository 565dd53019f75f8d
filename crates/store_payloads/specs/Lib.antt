pub mod Fields
pub mod Payloads
pub mod FirstForm
pub mod Folds
pub mod Fits
pub mod Gives
pub mod Laws
