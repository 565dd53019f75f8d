pub mod Cell
pub mod CellMarks
pub mod CellSound
