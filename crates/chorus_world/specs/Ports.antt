-- Ports: what the entries on the line of one port say of it.
use Rattle.std.specs.Prelude.{ℕ, ◌+◌, ◌-◌, ◌==◌, nat_lt, Bool, true, false, ◌&&◌, List, [], ◌∷◌, ◌++◌, length, drop, Option, Some, None, slice_get}
use Rattle.chorus_ui.specs.declared.ui.Ui.{Ui}
use Rattle.chorus_entry.specs.declared.entry.Entry.{Entry}
use Rattle.chorus_entry.specs.declared.id.MsgId.{MsgId}
use Rattle.chorus_entry.specs.declared.act.Act.{Act}
use Rattle.chorus_entry.specs.declared.act.Act.TheVariants.{Make, Accept, Take, Rehome, Depart, Arrive, Delete}
use Rattle.chorus_entry.specs.Ids.{same_ids}
use Rattle.chorus_world.specs.declared.spot.Spot.{Spot}
use Rattle.chorus_world.specs.declared.spot.Spot.TheVariants.{Held, Moving, Ended}
use Rattle.chorus_entry.specs.MsgId.{same_id}
use Rattle.chorus_entry.specs.Same.{are_same}

-- what became of a port: how many messages may wait in it, the ids that it accepted, in order, how many of these were
-- received, the places of its hops 0, 1, .., and whether it is held, by which actor, moving, to which actor, or deleted
pub record PortState : Type 0 where
  pub capacity : ℕ
  pub accepted : List MsgId
  pub taken : ℕ
  pub path : List ℕ
  pub spot : Spot

-- a port that was just made at the place p
abbrev pub new_port : ℕ → Ui → ℕ → PortState
new_port p a c = record { capacity = c; accepted = []; taken = 0; path = p ∷ []; spot = Held a }

abbrev pub arrived : Spot → Spot
arrived (Moving a) = Held a
arrived s = s

-- a made port after an act on its line
abbrev pub changed : Act → PortState → PortState
changed (Accept x q n) f = record f { accepted = f.accepted ++ x ∷ [] }
changed (Take q n x) f = record f { taken = f.taken + 1 }
changed (Rehome q a) f = record f { spot = Held a }
changed (Depart q to a hop) f = record f { path = f.path ++ to ∷ []; spot = Moving a }
changed (Arrive q hop) f = record f { spot = arrived f.spot }
changed (Delete q xs) f = record f { spot = Ended }
changed _ f = f

-- a port that may not be made after an act on its line at the place p
abbrev pub fate_after : ℕ → Act → Option PortState → Option PortState
fate_after p (Make q a c) f = Some (new_port p a c)
fate_after p act None = None
fate_after p act (Some f) = Some (changed act f)

-- what the entries on its line have made of a port; nothing where it is not made
abbrev pub fate : List Entry → Option PortState
fate [] = None
fate (e ∷ port) = fate_after e.place e.act (fate port)

-- What is asked of a port, which may not be made.

abbrev pub is_made : Option PortState → Bool
is_made None = false
is_made (Some f) = true

abbrev pub is_held : Spot → Bool
is_held (Held a) = true
is_held _ = false

abbrev pub is_moving : Spot → Bool
is_moving (Moving a) = true
is_moving _ = false

abbrev pub is_ended : Spot → Bool
is_ended Ended = true
is_ended _ = false

-- the last of a list of places
abbrev pub last_of : ℕ → List ℕ → ℕ
last_of p [] = p
last_of p (q ∷ ps) = last_of q ps

-- p is the last place of its path: it is there, on its way there, or it was deleted there
abbrev pub is_last : ℕ → PortState → Bool
is_last p f = last_of 0 f.path == p

abbrev pub is_held_at : ℕ → Option PortState → Bool
is_held_at p None = false
is_held_at p (Some f) = is_held f.spot && is_last p f

abbrev pub is_ended_at : ℕ → Option PortState → Bool
is_ended_at p None = false
is_ended_at p (Some f) = is_ended f.spot && is_last p f

-- it is on its way to p by its last hop
abbrev pub is_coming : ℕ → ℕ → Option PortState → Bool
is_coming p hop None = false
is_coming p hop (Some f) = is_moving f.spot && is_last p f && (hop == length f.path - 1)

-- its next hop has this number
abbrev pub is_next_hop : ℕ → Option PortState → Bool
is_next_hop hop None = false
is_next_hop hop (Some f) = hop == length f.path

-- how many messages wait in it
abbrev pub waiting : PortState → ℕ
waiting f = length f.accepted - f.taken

-- it has room, and n is the position of what it accepts next
abbrev pub has_room : ℕ → Option PortState → Bool
has_room n None = false
has_room n (Some f) = nat_lt (waiting f) f.capacity && (n == length f.accepted)

-- n messages wait in it, and it has no room for more
abbrev pub is_full : ℕ → Option PortState → Bool
is_full n None = false
is_full n (Some f) = (waiting f == f.capacity) && (n == waiting f)

-- the message x, at position n, is the first that waits in it
abbrev pub is_first_waiting : ℕ → MsgId → Option PortState → Bool
is_first_waiting n x None = false
is_first_waiting n x (Some f) = (n == f.taken) && are_same same_id (Some x) (slice_get f.accepted n)

abbrev pub is_empty : Option PortState → Bool
is_empty None = false
is_empty (Some f) = f.taken == length f.accepted

-- these messages wait in it
abbrev pub are_waiting : List MsgId → Option PortState → Bool
are_waiting xs None = false
are_waiting xs (Some f) = same_ids xs (drop f.taken f.accepted)
