-- Lines: the line of an entry, as it stands in a journal, and what is in it.
use Rattle.std.specs.Prelude.{ℕ, ◌≡◌, ◌==◌, Bool, false, List, [], ◌∷◌, decimal}
use Rattle.std.specs.List.{list_any}
use Rattle.chorus_entry.specs.declared.entry.Entry.{Entry}
use Rattle.chorus_show.specs.Lines.{act_text}
use Rattle.picture_texts.specs.Stretches.{is_special}
use Rattle.picture_rows.specs.declared.lines.Line.{Line}
use Rattle.picture_rows.specs.Shapes.{line_text}

-- where no byte of the line is said to be special, none is, and so none of its act
pub record IsLine (e : Entry) (line : Line) : Type 0 where
  pub text : line.text.now ≡ line_text e
  pub clock : line.clock.now ≡ decimal e.clock
  pub seat : line.seat.now ≡ decimal e.seat
  pub act : line.act.now ≡ act_text e.act
  pub plain : line.special ≡ false → list_any is_special line.text.now ≡ false
  pub plain_act : line.special ≡ false → list_any is_special line.act.now ≡ false

-- whether a text begins with this byte
abbrev pub begins_with : ℕ → List ℕ → Bool
begins_with mark [] = false
begins_with mark (c ∷ cs) = c == mark
