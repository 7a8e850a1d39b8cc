pub mod Fitting
pub mod Meeting
pub mod Shortened
pub mod Few
pub mod Before
