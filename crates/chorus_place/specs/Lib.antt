pub mod PlaceTables
pub mod PlaceTurns
pub mod GivenPosts
pub mod Calls
pub mod Outcomes
