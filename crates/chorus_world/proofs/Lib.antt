pub mod Steps
pub mod Ports
pub mod Messages
pub mod Groups
pub mod Seats
pub mod Sorted
pub mod Moments
pub mod Examples
