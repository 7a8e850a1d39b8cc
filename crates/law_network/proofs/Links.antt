pub mod LinkViews
pub mod PacketViews
pub mod Abouts
pub mod UnderWays
pub mod Reports
