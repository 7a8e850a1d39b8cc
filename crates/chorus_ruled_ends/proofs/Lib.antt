pub mod Lists
pub mod Moving
pub mod Slots
pub mod Rows
