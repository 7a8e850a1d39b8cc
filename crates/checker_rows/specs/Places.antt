-- Places: what the table has of a place, and what an entry makes of it.
use Rattle.std.specs.Prelude.{ℕ, ◌≡◌, ◌==◌, ◌<◌, ◌^◌, nat_eq, cond, List, [], ◌∷◌, Option, Some, None, unwrap_or}
use Rattle.std.specs.HashMap.{HashMap, get}
use Rattle.chorus_entry.specs.declared.entry.Entry.{Entry}
use Rattle.chorus_entry.specs.declared.act.Act.{Act}
use Rattle.chorus_entry.specs.declared.act.Act.TheVariants.{Take}
use Rattle.chorus_world.specs.declared.place.TakenReply.{TakenReply}
use Rattle.chorus_world.specs.Views.{at}
use Rattle.chorus_world.specs.Places.{last_clock, ports_after, ports_made, reply_taken}
use Rattle.chorus_world.specs.Groups.{groups_after, groups_made}
use Rattle.chorus_world.specs.Posts.{tag_of}
use Rattle.checker_rows.specs.declared.places.Taking.{Taking}
use Rattle.checker_rows.specs.declared.places.PlaceRow.{PlaceRow}

abbrev pub no_place : PlaceRow
no_place = record { clock = 0; ports = 0; groups = 0; taken = None }

abbrev pub place_in : {S : Type 0} → HashMap ℕ PlaceRow S → ℕ → PlaceRow
place_in t p = unwrap_or (get nat_eq t p) no_place

abbrev pub taking : ℕ → Act → Option Taking
taking s (Take q n x) = Some (record { taker = s; id = x })
taking s _ = None

abbrev pub last_taking : List Entry → Option Taking
last_taking [] = None
last_taking (e ∷ here) = taking e.seat e.act

abbrev pub fold_place : List Entry → PlaceRow
fold_place here =
    record { clock = last_clock here; ports = ports_made here; groups = groups_made here; taken = last_taking here }

abbrev pub place_row : List Entry → ℕ → PlaceRow
place_row past p = fold_place (at p past)

abbrev pub place_here : Entry → PlaceRow → PlaceRow
place_here e r =
    record {
      clock = e.clock;
      ports = ports_after e.act r.ports;
      groups = groups_after e.act r.groups;
      taken = taking e.seat e.act;
    }

abbrev pub place_after : ℕ → Entry → PlaceRow → PlaceRow
place_after p e r = cond (e.place == p) (place_here e r) r

-- the reply that was taken, as the past has its tag
abbrev pub reply_of : List Entry → Option Taking → Option TakenReply
reply_of past None = None
reply_of past (Some t) = reply_taken t.taker (tag_of t.id past)

-- the places after an entry
abbrev pub PlacesAfter : Entry → (ℕ → PlaceRow) → (ℕ → PlaceRow) → Type 0
PlacesAfter e old new = (p : ℕ) → new p ≡ place_after p e (old p)

-- fewer than 2^63 ports and groups are made there, so that one more can be counted
abbrev pub HasFewMade : PlaceRow → Type 0
HasFewMade r = (r.ports < 2 ^ 63) × (r.groups < 2 ^ 63)
