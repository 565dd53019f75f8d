pub mod Diallings
pub mod Replied
pub mod Fronts
pub mod NoFrames
pub mod Readings
mod Answering
mod Dialled
mod Fitting
mod Examples
