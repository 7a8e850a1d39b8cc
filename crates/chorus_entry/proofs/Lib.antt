pub mod Clients
pub mod ClientTables
pub mod Positions
pub mod Same
