mod Told
mod Silent
mod Counting
mod Leaving
mod Asking
mod Reading
pub mod Replaying
mod Texts
mod Anybody
pub mod Awaiting
mod Following
pub mod Beginning
pub mod Playing
mod Stuck
mod Examples
mod Facts
