pub mod Stuck
pub mod Calls
pub mod Report
pub mod Tests
pub mod Stops
pub mod Reads
pub mod Output
pub mod Lines
