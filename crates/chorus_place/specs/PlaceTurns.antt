pub mod Allowed
pub mod CallTurns
pub mod Posting
pub mod WithGroups
pub mod OfPackets
