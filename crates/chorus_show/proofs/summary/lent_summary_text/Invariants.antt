use Rattle.std.proofs.Common.{◌≡◌, List, ◌++◌, length, map}
use Rattle.std.specs.Borrow.{Bor}
use Rattle.chorus_entry.specs.declared.entry.Entry.{Entry}
use Rattle.chorus_show.specs.Tally.{Tells}
use Rattle.chorus_show.proofs.summary.lent_summary_text.Given as goal

-- the entries that were counted stand behind the rest
abbrev pub invariant-loop-rest : goal.invariant-loop-rest
invariant-loop-rest l = (later : List (Bor Entry)) × (l.entries ≡ l.rest ++ later) × Tells l.summary (map (λ (e : Bor Entry). e.now) later)

abbrev pub decreases-loop-rest : goal.decreases-loop-rest
decreases-loop-rest l = length l.rest
