pub mod Growth
pub mod Counts
pub mod Soundness
pub mod Parts
pub mod Progress
pub mod Running
pub mod Promised
pub mod Whole
mod Examples
