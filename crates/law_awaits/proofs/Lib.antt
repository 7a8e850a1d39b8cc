pub mod Gives
pub mod Owned
