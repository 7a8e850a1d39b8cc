pub mod Berths
pub mod Seats
pub mod Tables
pub mod Laws
