pub mod PrintedLines
pub mod Kept
