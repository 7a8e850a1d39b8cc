pub mod Ruled
pub mod Sides
pub mod Linked
