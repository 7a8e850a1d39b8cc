pub mod GroupTurns
