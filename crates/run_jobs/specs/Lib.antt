pub mod Promise
pub mod Ending
