pub mod Judgements
pub mod Texts
pub mod Findings
pub mod Blaming
pub mod Promising
pub mod Output
