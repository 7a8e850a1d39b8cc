pub mod Bytes
pub mod Count
pub mod Memory
