pub mod Flows
pub mod Desks
pub mod Working
pub mod Serving
