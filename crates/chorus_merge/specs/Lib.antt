pub mod Order
pub mod Merge
pub mod Steps
pub mod Laws
