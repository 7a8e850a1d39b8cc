pub mod Parts
pub mod Journals
pub mod Performs
pub mod Sorts
