pub mod Crewed
pub mod Positions
pub mod Crews
pub mod Looks
pub mod Passes
pub mod Taken
