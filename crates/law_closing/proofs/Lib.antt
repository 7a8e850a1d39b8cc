pub mod Remarks
pub mod Schedules
pub mod Growth
pub mod Places
pub mod Actors
pub mod Seen
pub mod Behind
mod Examples
