pub mod PortSums
pub mod Waiting
pub mod LineBack
pub mod Counting
pub mod Bounds
pub mod Lent
