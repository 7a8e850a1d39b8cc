pub mod Steps
pub mod Halts
pub mod Lines
pub mod Comings
pub mod Leavings
pub mod Opening
mod Examples
pub mod Readies
