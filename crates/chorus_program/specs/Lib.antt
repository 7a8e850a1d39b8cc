pub mod Ending
pub mod Running
pub mod Circle
pub mod Started
pub mod Concluding
