pub mod Replicas
pub mod Telling
pub mod Asking
pub mod Mirrors
pub mod Attaching
pub mod Laws
