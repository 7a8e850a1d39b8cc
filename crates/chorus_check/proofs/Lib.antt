pub mod Asking
pub mod Called
pub mod Counting
pub mod Holding
