-- A line has one entry, and is read back.
use Rattle.std.specs.Prelude.{◌≡◌, ℕ, List, [], ◌∷◌, ◌++◌, Some}
use Rattle.chorus_entry.specs.declared.entry.Entry.{Entry}
use Rattle.chorus_show.specs.Bounds.{IsEntry}
use Rattle.chorus_show.specs.Lines.{entry_text}
use Rattle.chorus_show.specs.Reading.{parts, entry_in}

-- two entries within their types with one line are one
abbrev pub LinesTellEntries : Type 0
LinesTellEntries = (d e : Entry) → IsEntry d → IsEntry e → entry_text d ≡ entry_text e → d ≡ e

-- and what the words of its line say, without the LF, is the entry
abbrev pub LinesAreReadBack : Type 0
LinesAreReadBack =
    (e : Entry) (text : List ℕ) → IsEntry e → entry_text e ≡ text ++ 10 ∷ [] → entry_in (parts 32 text) ≡ Some e
