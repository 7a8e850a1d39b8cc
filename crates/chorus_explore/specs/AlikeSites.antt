pub mod Packets
pub mod Journals
pub mod Orders
pub mod Places
