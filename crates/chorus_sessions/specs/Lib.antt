pub mod Hands
pub mod Sessions
pub mod Delivering
pub mod Sending
pub mod Kept
pub mod Playing
