pub mod Arriving
pub mod Openable
pub mod Verdicts
