pub mod Groups
pub mod Faults
pub mod Choosing
pub mod Made
pub mod Law
