pub mod Replies
pub mod Taking
pub mod AsPosted
pub mod Networks
pub mod Turns
pub mod Outcomes
pub mod Histories
