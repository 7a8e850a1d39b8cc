pub mod Threads
pub mod Ends
pub mod DrawnCrew
pub mod ReportParts
pub mod Standing
