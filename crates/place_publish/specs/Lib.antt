pub mod Lessons
pub mod Publishing
