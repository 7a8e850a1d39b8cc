use Rattle.std.proofs.Common.{◌≡◌, ◌≤◌, take, map}
use Rattle.std.specs.Prelude.{vec_len, vec_capacity}
use Rattle.chorus_place.specs.PlaceTables.Tables.{state}
use Rattle.chorus_place.specs.PlaceTables.Groups.{site_at}
use Rattle.chorus_place.proofs.tables.Tables.sites_of.Given as goal

abbrev pub invariant-loop-at : goal.invariant-loop-at
invariant-loop-at l = (l.sites.items ≡ map (site_at (state l.self)) (take l.at l.members)) × (vec_len l.sites ≡ l.at) × (l.len ≤ vec_capacity l.sites)
