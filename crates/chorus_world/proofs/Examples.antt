-- Examples, each computed: what always holds of a past and where it does not, decisions, what was sent and fates of which the
-- laws fail, what laws alone read, which acts answer a command, and the limits.
pub mod Names
pub mod Moments
pub mod Words
pub mod Commands
pub mod Limits
pub mod Entries
pub mod Passed
pub mod Sent
pub mod Fates
