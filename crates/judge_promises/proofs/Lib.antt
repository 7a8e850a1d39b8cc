pub mod Reading
pub mod Ports
pub mod Accepting
pub mod Keeping
pub mod Ties
pub mod Taking
pub mod Fronts
