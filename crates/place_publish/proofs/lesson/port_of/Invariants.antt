use Rattle.std.proofs.Common.{◌≡◌, ◌-◌, ◌≤◌, None, reverse, take}
use Rattle.chorus_world.specs.Places.{find_sent, sent}
use Rattle.place_publish.proofs.lesson.port_of.Given as goal

abbrev pub invariant-loop-index : goal.invariant-loop-index
invariant-loop-index l = (l.index ≤ l.upto) × (find_sent l.id (sent (reverse (take l.index l.journal))) ≡ None)

abbrev pub decreases-loop-index : goal.decreases-loop-index
decreases-loop-index l = l.upto - l.index
