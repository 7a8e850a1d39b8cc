pub mod Berthing
pub mod Fitting
pub mod Finding
pub mod Sittings
pub mod Meaning
pub mod Following
pub mod Ending
