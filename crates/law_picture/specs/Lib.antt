pub mod Causes
pub mod Bars
pub mod Laws
