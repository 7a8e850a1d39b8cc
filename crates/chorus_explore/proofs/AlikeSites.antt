pub mod Kept
pub mod Lists
pub mod Networks
pub mod Orders
pub mod Telling
