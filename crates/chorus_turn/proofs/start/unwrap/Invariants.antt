use Rattle.std.proofs.Common.{◌≡◌, ◌+◌, ◌≤◌, ◌++◌, reverse, List}
use Rattle.std.specs.Vec.{vec_len, vec_capacity}
use Rattle.chorus_turn.specs.Lists.{somes}
use Rattle.chorus_turn.proofs.start.unwrap.Given as goal

abbrev pub invariant-loop-slot : goal.invariant-loop-slot
invariant-loop-slot g l = (somes l.states.items ++ reverse l.slots.items ≡ l.fn.slots.items) × (vec_len l.states + vec_len l.slots ≤ vec_capacity l.states) × ((xs : List g.row.S.Denot) × (reverse l.slots.items ≡ somes xs))

abbrev pub decreases-loop-slot : goal.decreases-loop-slot
decreases-loop-slot g l = goal.left-loop-slot g l
