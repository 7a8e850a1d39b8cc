pub mod Names
pub mod Value
pub mod Sends
pub mod Filling
pub mod Text
pub mod Takes
pub mod Ends
