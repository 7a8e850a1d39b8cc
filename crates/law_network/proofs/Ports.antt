pub mod HeldPorts
pub mod Making
pub mod PortCommands
pub mod Taking
pub mod AtPorts
pub mod Arriving
