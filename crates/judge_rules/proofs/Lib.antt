pub mod Shapes
pub mod Rules
pub mod Finding
pub mod Blaming
