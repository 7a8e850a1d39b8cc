pub mod Words
pub mod Pieces
pub mod Places
pub mod Shapes
pub mod Tests
pub mod Ways
