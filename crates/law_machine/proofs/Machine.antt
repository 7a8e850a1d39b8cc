pub mod Keys
pub mod Queues
pub mod Steps
pub mod Owns
pub mod Follows
pub mod Chains
pub mod Stays
pub mod Ready
