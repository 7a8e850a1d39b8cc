-- Worked examples: what the laws say of journals and histories that are computed, and what fails them.
pub mod Replies
pub mod Outcomes
pub mod Histories
-- Of what is said of every network: holdings that do not hold each message, and events that do not carry out their tasks. They stand here,
-- since `law_network`, whose words these are, is below much.
pub mod Held
pub mod Tasks
