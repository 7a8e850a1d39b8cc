pub mod Tries
pub mod Asked
pub mod Machine
