pub mod Quieting
pub mod Blamed
pub mod Pieces
