mod ColumnLists
mod Drawn
mod FirstLine
pub mod Kept
mod LinesLeft
mod MarkKinds
mod Noted
mod PieceTexts
mod RoundTexts
mod RowTexts
mod StandApart
