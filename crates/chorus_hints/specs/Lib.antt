pub mod Known
pub mod Lessons
