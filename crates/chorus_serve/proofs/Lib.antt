pub mod Flowing
pub mod Joining
