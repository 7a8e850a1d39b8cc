-- The order by clock and place: in which lists it goes with what each entry reads, and how a list is sorted by it. A
-- list is a past, the newest entry first.
use Rattle.std.specs.Prelude.{ℕ, if◌then◌else◌, List, [], ◌∷◌}
use Rattle.chorus_ui.specs.declared.ui.Ui.{Ui}
use Rattle.chorus_entry.specs.declared.entry.Entry.{Entry}
use Rattle.chorus_entry.specs.declared.id.MsgId.{MsgId}
use Rattle.chorus_entry.specs.Order.{IsRising, comes_before}
use Rattle.chorus_world.specs.Views.{at, by, about, on}

-- clock and place rise along each place, each seat, each message and the line of each port
pub record IsCausal (past : List Entry) : Type 0 where
  pub places : (p : ℕ) → IsRising (at p past)
  pub seats : (s : ℕ) → IsRising (by s past)
  pub messages : (x : MsgId) → IsRising (about x past)
  pub ports : (q : Ui) → IsRising (on q past)

-- the list with e put in as older than the newest entries, as far as it comes before them; without any, it is the
-- newest
abbrev pub insert : Entry → List Entry → List Entry
insert e [] = e ∷ []
insert e (f ∷ past) = if comes_before e f then f ∷ insert e past else e ∷ f ∷ past

-- the list in the order by clock and place; of entries that have both the same the older one stays the older
abbrev pub sort : List Entry → List Entry
sort [] = []
sort (e ∷ past) = insert e (sort past)
