pub mod Kinds
pub mod Refusals
pub mod Mirrors
pub mod StoreParts
pub mod Store
pub mod Frames
pub mod Streams
pub mod Laws
