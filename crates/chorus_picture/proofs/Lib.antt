mod Heads
mod Left
mod Lines
mod RuleActs
mod Whole
