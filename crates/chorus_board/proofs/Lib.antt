mod Fronts
mod Stages
mod Rules
mod Worlds
pub mod Publishes
pub mod Whereabouts
