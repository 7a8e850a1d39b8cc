pub mod Lists
pub mod Journals
pub mod Knowing
pub mod Rule
pub mod Passes
pub mod Calls
pub mod Rooms
