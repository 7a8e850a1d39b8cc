pub mod Reading
pub mod Short
