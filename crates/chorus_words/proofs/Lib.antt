pub mod Cut
pub mod Spelling
