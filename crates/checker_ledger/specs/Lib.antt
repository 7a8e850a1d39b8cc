pub mod Asks
pub mod Groups
pub mod Ports
pub mod Ties
pub mod Worlds
