pub mod Rounds
pub mod Endings
