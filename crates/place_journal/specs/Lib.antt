pub mod Counting
pub mod Marks
