pub mod Waiting
pub mod Verdicts
pub mod Deciding
pub mod Going
