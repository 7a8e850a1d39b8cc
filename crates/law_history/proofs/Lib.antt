pub mod Lists
pub mod Order
pub mod Sorting
pub mod Clocks
pub mod Runs
pub mod Counts
pub mod Working
pub mod Rising
pub mod Appending
pub mod Falling
pub mod Showing
pub mod Arriving
pub mod Happening
pub mod Scheduled
pub mod Merging
pub mod Listed
pub mod Left
mod Examples
