pub mod Sent
pub mod Begins
pub mod Pairs
pub mod Letters
pub mod Counted
pub mod Endings
