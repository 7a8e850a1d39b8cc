mod Lists
pub mod Merges
mod Leads
mod Turns
mod Quiet
mod Schedules
