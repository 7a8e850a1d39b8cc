pub mod Differences
pub mod Findings
pub mod Judgements
pub mod Lines
pub mod Reports
pub mod Singles
pub mod Facts
pub mod Outcomes
