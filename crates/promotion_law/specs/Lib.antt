pub mod Promotions
pub mod UnderWay
pub mod Openings
