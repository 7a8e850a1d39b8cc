pub mod Allowed
pub mod GroupTurns
