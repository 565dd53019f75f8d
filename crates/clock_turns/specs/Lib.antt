pub mod Closings
pub mod ClosingLaws
pub mod Callbacks
pub mod Timers
pub mod Ends
pub mod Ticks
pub mod TickLaws
