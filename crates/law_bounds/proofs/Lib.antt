pub mod Ranges
pub mod Ports
pub mod Entries
pub mod Trying
pub mod Groups
pub mod Commands
pub mod Packets
pub mod Starting
