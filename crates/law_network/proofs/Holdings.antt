pub mod Shows
pub mod Packets
pub mod Closed
pub mod Passing
pub mod EachMessage
pub mod ByFate
