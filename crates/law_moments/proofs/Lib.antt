mod Quiet
pub mod Answering
mod Places
pub mod Reading
pub mod Fronts
mod Examples
