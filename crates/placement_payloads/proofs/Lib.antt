mod Examples
pub mod PayloadLaws
pub mod Fitting
