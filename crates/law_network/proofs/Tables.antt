pub mod Keys
pub mod Learning
pub mod Hearing
pub mod Queues
pub mod TablesSay
