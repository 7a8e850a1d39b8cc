pub mod PortLemmas
pub mod TableLemmas
pub mod GroupLemmas
pub mod Turns
pub mod Ties
pub mod Turning
