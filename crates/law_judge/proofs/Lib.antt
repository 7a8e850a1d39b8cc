pub mod Stages
pub mod Lists
pub mod Moving
pub mod Begun
pub mod Quiet
