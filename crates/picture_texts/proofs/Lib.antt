pub mod Pieces
mod PlainNames
pub mod PlainTexts
mod ReadBack
pub mod Stretches
