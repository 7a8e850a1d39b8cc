pub mod Fault
pub mod Frames
pub mod Numbers
pub mod Spelling
pub mod Reading
pub mod Held
pub mod Laws
pub mod Calls
