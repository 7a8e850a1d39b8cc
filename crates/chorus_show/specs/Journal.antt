-- The journal text: how many entries there are, and their lines.
use Rattle.std.specs.Prelude.{ℕ, List, [], ◌∷◌, ◌++◌, length, codes, decimal}
use Rattle.std.specs.List.{flat_map}
use Rattle.chorus_entry.specs.declared.entry.Entry.{Entry}
use Rattle.chorus_show.specs.Phrases.{phrase}
use Rattle.chorus_show.specs.Lines.{entry_text}

-- the line `WORD NUMBER`
abbrev pub count_line : List ℕ → ℕ → List ℕ
count_line word n = phrase word (decimal n ∷ []) ++ 10 ∷ []

-- its first line, `journal N`, and the lines of the entries
abbrev pub journal_head : ℕ → List ℕ
journal_head n = count_line (codes "journal") n

abbrev pub journal_lines : List Entry → List ℕ
journal_lines entries = flat_map entry_text entries

abbrev pub journal_text : List Entry → List ℕ
journal_text entries = journal_head (length entries) ++ journal_lines entries
