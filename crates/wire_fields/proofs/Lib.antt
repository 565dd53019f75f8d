pub mod FieldLaws
pub mod PartLaws
pub mod RecordLaws
pub mod Loops
mod TextLaws
