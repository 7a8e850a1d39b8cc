pub mod RuleWords
pub mod Sheet
pub mod Found
pub mod Picture
pub mod Output
