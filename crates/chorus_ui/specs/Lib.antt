pub mod Decimals
pub mod Kind
pub mod Name
pub mod NameKind
pub mod Bits
pub mod Text
pub mod Layout
