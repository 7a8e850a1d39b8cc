-- Turns and networks that are alike: the same but for clocks, and for what of journals nobody looks at.
-- t and u are turns, j and k are journals, g is a group, q a port, n and m are networks, w and v are callers.
use Rattle.std.specs.Prelude.{ℕ, ◌≡◌, ◌≤◌, ◌⊎◌, true, List, [], ◌∷◌, map, Option, Some, None, is_some, slice_get}
use Rattle.chorus_ui.specs.declared.ui.Ui.{Ui}
use Rattle.chorus_entry.specs.declared.command.Command.{Command}
use Rattle.chorus_entry.specs.declared.entry.Entry.{Entry}
use Rattle.chorus_entry.specs.declared.packet.Packet.{Packet}
use Rattle.chorus_world.specs.Groups.{groups_made, members, rotation}
use Rattle.chorus_world.specs.Places.{ports_made, is_deleted}
use Rattle.chorus_world.specs.Views.{is_group}
use Rattle.chorus_calls.specs.Callers.{Seated}
use Rattle.law_machine.specs.declared.outgoing.Outgoing.{Outgoing}
use Rattle.law_machine.specs.PlaceState.{PlaceState, Turn}
use Rattle.law_machine.specs.PlaceMachine.{act, work}
use Rattle.law_network.specs.Network.{NetState, Event, Act, Deliver, happened}

-- all that a turn reads of a journal is the same
pub record ReadAlike (j k : List Entry) : Type 0 where
  pub ports : ports_made j ≡ ports_made k
  pub groups : groups_made j ≡ groups_made k
  pub named : (g : Ui) → is_group g j ≡ is_group g k
  pub members_are : (g : Ui) → members g j ≡ members g k
  pub rotates : (g : Ui) → rotation g j ≡ rotation g k
  pub gone : (q : Ui) → is_deleted q j ≡ is_deleted q k

-- or even all acts are the same, entry by entry: clocks may differ, and whose turn it was
abbrev pub ActAlike : List Entry → List Entry → Type 0
ActAlike j k = map (λ (e : Entry). e.act) j ≡ map (λ (e : Entry). e.act) k

-- the callers are the same but for their last clocks; or anybody
pub record SameButLast (w v : Seated) : Type 0 where
  pub last : ℕ
  pub is : v ≡ record w { last = last }

abbrev pub Anyone : Seated → Seated → Type 0
Anyone w v = Unit {0}

-- a packet without its clock
abbrev pub unclocked : Outgoing → Outgoing
unclocked o = record { to = o.to; packet = record { clock = 0; from = o.packet.from; cargo = o.packet.cargo } }

-- the turn with another journal, another caller, and other packets put
abbrev pub with_other : List Entry → Seated → List Outgoing → Turn → Turn
with_other j w os t = record { place = record t.place { journal = j }; caller = w; puts = os }

abbrev pub CallerAlike : Option Seated → Option Seated → Type 0
CallerAlike None None = Unit {0}
CallerAlike None (Some v) = ⊥
CallerAlike (Some w) None = ⊥
CallerAlike (Some w) (Some v) = SameButLast w v

-- the event that is a script's command, or a delivery by somebody who has none, may be by somebody else in the other
-- network
abbrev pub AreSameMove : ℕ → Event → Event → NetState → NetState → Type 0
AreSameMove count e f n m =
    ((k : ℕ) × ((c : Command) × ((e ≡ Act k c) × (f ≡ Act k c) × (1 ≤ k) × (k ≤ count))))
    ⊎ ((i : ℕ) × ((j : ℕ) × ((a : ℕ) × ((b : ℕ) × ((e ≡ Deliver i a b) × (f ≡ Deliver j a b)
    × (is_some (slice_get n.callers i) ≡ true) × (is_some (slice_get m.callers j) ≡ true)
    × ((k : ℕ) → 1 ≤ k → k ≤ count → (i ≡ k → ⊥) × (j ≡ k → ⊥)))))))

module _ (J : List Entry → List Entry → Type 0) where
  pub record AreAlike (R : Seated → Seated → Type 0) (t u : Turn) : Type 0 where
    pub journal : List Entry
    pub caller : Seated
    pub puts : List Outgoing
    pub is : u ≡ with_other journal caller puts t
    pub journals : J t.place.journal journal
    pub callers : R t.caller caller
    pub loads : map unclocked t.puts ≡ map unclocked puts

  -- What turns do that are alike is alike, whatever the command, and whatever the packet, its clock, and who works it
  -- off.
  abbrev pub CommandsStayAlike : Type 0
  CommandsStayAlike = (c : Command) (t u : Turn) → AreAlike SameButLast t u → AreAlike SameButLast (act c t) (act c u)

  abbrev pub PacketsStayAlike : Type 0
  PacketsStayAlike = (k : Packet) (clock : ℕ) (t u : Turn) → AreAlike Anyone t u →
      AreAlike Anyone (work k t) (work (record k { clock = clock }) u)

  -- Networks.

  pub record PlaceAlike (s r : PlaceState) : Type 0 where
    pub journal : List Entry
    pub is : r ≡ record s { journal = journal }
    pub journals : J s.journal journal

  abbrev pub PlacesAlike : List PlaceState → List PlaceState → Type 0
  PlacesAlike [] [] = Unit {0}
  PlacesAlike [] (r ∷ rs) = ⊥
  PlacesAlike (s ∷ ss) [] = ⊥
  PlacesAlike (s ∷ ss) (r ∷ rs) = PlaceAlike s r × PlacesAlike ss rs

  -- of the callers those with scripts, which have the seats from 1 to `count`
  pub record NetsAlike (count : ℕ) (n m : NetState) : Type 0 where
    pub layout : m.layout ≡ n.layout
    pub places : PlacesAlike n.places m.places
    pub packets : map unclocked n.packets ≡ map unclocked m.packets
    pub callers : (k : ℕ) → 1 ≤ k → k ≤ count → CallerAlike (slice_get n.callers k) (slice_get m.callers k)

  abbrev pub NetsStayAlike : Type 0
  NetsStayAlike =
      (count : ℕ) (n m : NetState) (e f : Event) → NetsAlike count n m → AreSameMove count e f n m →
      NetsAlike count (happened e n) (happened f m)
