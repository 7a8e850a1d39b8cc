pub mod Remarks
pub mod Closing
pub mod Growth
pub mod Places
pub mod Actors
pub mod Seen
pub mod Behind
