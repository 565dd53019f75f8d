mod AddressParts
mod AddressTexts
mod DecimalPieces
mod FirstBad
mod Examples
mod MemberTexts
mod Numerals
mod PaddingLemmas
pub mod Slashes
pub mod FormFaults
mod Within
mod SameTexts
