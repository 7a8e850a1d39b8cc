use Rattle.std.proofs.Common.{◌≡◌, ℕ, ◌-◌, ◌<◌, ◌≤◌, false, get_or, take}
use Rattle.std.specs.Slots.{slots_items, slots_filled, slots_len}
use Rattle.std.specs.Slots.Ownership.{Filled}
use Rattle.std.specs.Vec.{vec_len, vec_capacity}
use Rattle.chorus_turn.specs.Lists.{somes}
use Rattle.chorus_turn.proofs.close.unload.Given as goal

abbrev pub invariant-loop-i : goal.invariant-loop-i
invariant-loop-i g l = record {
  out : somes l.states.items ≡ take l.i (slots_items l.fn.closed.slots);
  same : slots_items l.closed.slots ≡ slots_items l.fn.closed.slots;
  count : vec_len l.states ≡ l.i;
  within : l.i ≤ slots_len l.closed.slots;
  room : slots_len l.closed.slots ≤ vec_capacity l.states;
  long : slots_len l.closed.slots ≡ slots_len l.fn.closed.slots;
  left : Filled (slots_filled l.closed.slots) l.i (slots_len l.closed.slots);
  taken : (k : ℕ) → k < l.i → get_or (slots_filled l.closed.slots) k false ≡ false;
}

abbrev pub decreases-loop-i : goal.decreases-loop-i
decreases-loop-i g l = slots_len l.closed.slots - l.i
