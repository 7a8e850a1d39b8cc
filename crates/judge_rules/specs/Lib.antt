pub mod About
pub mod Terms
pub mod Conditions
pub mod Blames
pub mod Laws
