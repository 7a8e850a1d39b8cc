pub mod Callers
pub mod Progress
