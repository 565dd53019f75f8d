pub mod Exchanges
pub mod Replies
pub mod FrameExchanges
pub mod Asked
