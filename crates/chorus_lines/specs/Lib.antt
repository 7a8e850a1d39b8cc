pub mod Text
pub mod Body
pub mod Words
pub mod Reasons
