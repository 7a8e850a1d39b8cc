pub mod ListLemmas
pub mod PlaceLemmas
pub mod LineLemmas
pub mod EventLemmas
pub mod RoundLemmas
pub mod FairLemmas
pub mod Examples
