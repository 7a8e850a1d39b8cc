pub mod Came
pub mod Standing
pub mod Forward
pub mod Arrows
