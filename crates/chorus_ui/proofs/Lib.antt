pub mod Bits
pub mod Decimals
pub mod Names
pub mod Texts
