-- Worked examples: the journals were written by another program, from the rules alone.
pub mod Names
pub mod Locations
pub mod Groups
pub mod Reports
pub mod Calls
pub mod Deleting
pub mod Turns
pub mod Refusals
pub mod Views
pub mod Standing
pub mod Holdings
pub mod Quiet
pub mod Packets
pub mod Ended
pub mod Deciding
pub mod Fates
