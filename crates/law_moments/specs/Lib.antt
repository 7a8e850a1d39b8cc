pub mod Answers
pub mod Read
pub mod Fronts
