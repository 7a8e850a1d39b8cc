pub mod Exchange
pub mod Local
pub mod Agreement
pub mod Observers
pub mod Holders
pub mod ClockLemmas
pub mod LookingHome
pub mod Causal
