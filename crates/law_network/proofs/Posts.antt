pub mod Posting
pub mod CallerCommands
