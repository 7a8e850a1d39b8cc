mod Keys
mod Merging
mod Lowering
mod Rounds
mod Examples
