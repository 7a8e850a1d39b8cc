pub mod Window
pub mod Sending
pub mod Receiving
pub mod Line
pub mod Rounds
