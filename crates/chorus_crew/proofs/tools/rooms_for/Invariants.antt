use Rattle.std.proofs.Common.{◌≡◌, ◌≤◌, [], length}
use Rattle.std.specs.List.{All}
use Rattle.std.specs.Global.{Vec}
use Rattle.chorus_crew.specs.declared.job.Done.{Done}
use Rattle.chorus_crew.proofs.tools.rooms_for.Given as goal

abbrev pub invariant-loop : goal.invariant-loop
invariant-loop g l = (length l.rooms.items ≡ l.counter) × (l.counter ≤ l.workers) × All (λ (room : Vec (Done g.row.S.Denot)). room.items ≡ []) l.rooms.items
