pub mod Cuts
pub mod Lists
pub mod Measures
pub mod Choosing
pub mod Steps
pub mod Depth
