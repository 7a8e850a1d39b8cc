pub mod Clients
pub mod Kept
pub mod Again
pub mod Callers
pub mod Lending
pub mod Law
