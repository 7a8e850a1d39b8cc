use Rattle.std.proofs.Common.{◌≡◌, take}
use Rattle.std.specs.Prelude.{vec_len, vec_capacity, ◌≤◌}
use Rattle.chorus_place.specs.PlaceTables.Ports.{ids_of}
use Rattle.chorus_place.proofs.tables.pending.ids_of.Given as goal

abbrev pub invariant-loop-at : goal.invariant-loop-at
invariant-loop-at l = (l.ids.items ≡ ids_of (take l.at l.pending)) × (vec_len l.ids ≡ l.at) × (l.len ≤ vec_capacity l.ids)
