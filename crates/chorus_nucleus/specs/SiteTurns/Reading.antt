-- What readers do while their board is published.
use Rattle.std.specs.Prelude.{◌≡◌, List, Option, Some, None, Result, Ok, Err, IfSome, OnOk}
use mathlib.Core.List.{IsPrefix}
use Rattle.chorus_entry.specs.declared.entry.Entry.{Entry}
use Rattle.chorus_board.specs.declared.reader.BoardReader.{BoardReader}
use Rattle.chorus_board.specs.declared.board.Board.{Board}
use Rattle.chorus_board.specs.Boards.{entries_published, entries_seen, layout_read, place_read, name_read, IsSameReader}
use Rattle.chorus_nucleus.specs.declared.site_turns.site.SiteMark.{SiteMark}

-- the reader is of the board of that mark
abbrev pub ReadsBoard : SiteMark → BoardReader → Type 0
ReadsBoard m r = (name_read r ≡ m.board) × (layout_read r ≡ m.layout) × (place_read r ≡ m.number)

abbrev pub AcceptsReader : Option BoardReader → SiteMark → Type 0
AcceptsReader o m = IfSome o (λ r. ReadsBoard m r)

-- what became of the reader where these entries were to be published: at Ok it has seen them, and they begin with what
-- it had seen
abbrev pub Follows : {E : Type 0} → Option BoardReader → Option BoardReader → List Entry → Result (Unit {0}) E → Type 0
Follows None k es out = k ≡ None
Follows (Some r) None es out = ⊥
Follows (Some r) (Some s) es (Ok u) = IsSameReader r s × IsPrefix (entries_seen r) es × IsPrefix es (entries_seen s)
Follows (Some r) (Some s) es (Err e) = s ≡ r

-- what became of the board and its reader behind a serve: where the place was served, these entries were published, or
-- there was no memory; where it was not, nothing was
abbrev pub PublishedBehind : {T E F : Type 0} → Option BoardReader → Option BoardReader → Result (Unit {0}) E
    → List Entry → Board → Result T F → Type 0
PublishedBehind o k published es board (Ok x) = Follows o k es published × OnOk published (entries_published board ≡ es)
PublishedBehind o k published es board (Err f) = k ≡ o
