pub mod AddressTexts
pub mod CallTexts
mod Examples
