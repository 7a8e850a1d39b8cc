pub mod Read
pub mod Texts
pub mod Ends
pub mod Seating
pub mod Playing
pub mod Awaiting
