pub mod Reading
pub mod Setup
pub mod Awaiting
pub mod Headline
pub mod Output
pub mod Ending
