pub mod Going
pub mod Halting
pub mod Scripts
pub mod Runners
