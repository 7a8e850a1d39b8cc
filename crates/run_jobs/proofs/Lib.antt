pub mod Promising
pub mod Ending
