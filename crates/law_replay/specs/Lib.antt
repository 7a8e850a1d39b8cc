pub mod Version
pub mod Shown
pub mod Claims
