pub mod Order
pub mod Waiting
pub mod Worn
pub mod Ordered
pub mod Performing
pub mod Load
pub mod Laws
pub mod Ends
