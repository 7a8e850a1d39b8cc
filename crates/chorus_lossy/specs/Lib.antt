pub mod Line
pub mod Rounds
pub mod Running
pub mod Carrying
pub mod Output
