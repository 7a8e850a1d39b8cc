pub mod Clients
pub mod Keys
pub mod Lines
pub mod Locations
pub mod Messages
pub mod Places
pub mod Seats
