use Rattle.std.proofs.Common.{ℕ, ◌≡◌, ◌-◌, ◌+◌, map}
use Rattle.chorus_ends.specs.Memory.{IsSame}
use Rattle.chorus_ends.proofs.memory.make_list.Given as goal

abbrev pub invariant-loop-alloc : goal.invariant-loop-alloc
invariant-loop-alloc l = IsSame (map (λ x. x.items) l.initial.sent.items) (map (λ x. x.items) l.sent.items)

abbrev pub decreases-loop-alloc : goal.decreases-loop-alloc
decreases-loop-alloc l = l.place + 1 - l.sent.len
