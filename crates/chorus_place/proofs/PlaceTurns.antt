pub mod Performing
pub mod MovePort
pub mod Posting
pub mod CallTurns
pub mod AtOnce
pub mod Told
pub mod WithGroups
pub mod OfPackets
