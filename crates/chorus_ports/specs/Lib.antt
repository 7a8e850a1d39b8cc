pub mod Deciding
pub mod History
pub mod Limits
pub mod Rows
pub mod Table
pub mod Taking
