pub mod Facts
pub mod Deciding
pub mod Accepted
