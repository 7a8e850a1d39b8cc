mod Examples
pub mod Events
pub mod Groups
pub mod Links
pub mod Packets
pub mod Places
pub mod Ports
pub mod Posts
pub mod Standing
pub mod Tables
pub mod Trying
pub mod Merge
pub mod Commands
pub mod Holdings
pub mod Draining
pub mod Promises
