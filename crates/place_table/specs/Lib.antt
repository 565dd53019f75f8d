pub mod Hash
pub mod Ring
pub mod Hosts
pub mod Tables
