pub mod Lessons
pub mod Values
