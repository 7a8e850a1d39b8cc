pub mod GroupCommands
pub mod Choosing
pub mod Asking
pub mod GroupPosting
