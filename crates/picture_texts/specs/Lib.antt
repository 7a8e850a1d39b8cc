pub mod Filling
pub mod Stretches
pub mod Reading
