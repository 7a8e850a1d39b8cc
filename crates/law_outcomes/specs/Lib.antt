pub mod Closed
pub mod Replays
pub mod Texts
pub mod Anybody
pub mod Facts
pub mod Stuck
