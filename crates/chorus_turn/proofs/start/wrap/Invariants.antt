use Rattle.std.proofs.Common.{◌≡◌, ◌+◌, ◌≤◌, ◌++◌, reverse}
use Rattle.std.specs.Vec.{vec_len, vec_capacity}
use Rattle.chorus_turn.specs.Lists.{somes}
use Rattle.chorus_turn.proofs.start.wrap.Given as goal

abbrev pub invariant-loop-state : goal.invariant-loop-state
invariant-loop-state g l = (l.slots.items ++ somes (reverse l.states.items) ≡ somes l.fn.states.items) × (vec_len l.states + vec_len l.slots ≤ vec_capacity l.slots) × (vec_capacity l.states ≡ vec_capacity l.fn.states)

abbrev pub decreases-loop-state : goal.decreases-loop-state
decreases-loop-state g l = goal.left-loop-state g l
