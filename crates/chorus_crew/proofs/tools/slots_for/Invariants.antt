use Rattle.std.proofs.Common.{◌≡◌, ◌≤◌, None, length}
use Rattle.std.specs.List.{All}
use Rattle.std.specs.Prelude.{Option}
use Rattle.chorus_crew.specs.declared.job.Done.{Done}
use Rattle.chorus_crew.proofs.tools.slots_for.Given as goal

abbrev pub invariant-loop : goal.invariant-loop
invariant-loop g l = (length l.slots.items ≡ l.counter) × (l.counter ≤ l.count) × All (λ (s : Option (Done g.row.S.Denot)). s ≡ None) l.slots.items
