pub mod Departures
mod Examples
