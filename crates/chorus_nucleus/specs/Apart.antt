-- What is taken of places when they are taken apart.
-- a and b are numbers of places, d is a place at its links, ds are these in their order, t is what is left of one, ts
-- of each.
use Rattle.std.specs.Prelude.{ℕ, ◌≡◌, ◌≢◌, List, [], ◌∷◌, ◌++◌, length, map, reverse, Option, Some, None, option_to_list, slice_get, ◌-◌}
use Rattle.chorus_entry.specs.declared.packet.Packet.{Packet}
use Rattle.place_outbox.specs.Waiting.{list_to}
use Rattle.chorus_merge.specs.Steps.{journals_of}
use Rattle.law_network.specs.Left.{placed_at}
use Rattle.chorus_place.specs.Calls.{Place}
use Rattle.chorus_ruled_ends.specs.Ruled.{Ruled, end_to, end_from, sent_by, received_by}
use Rattle.chorus_ruled_ends.specs.Linked.{no_ends, AreOfOneLink}
use Rattle.chorus_serve.specs.Desks.{DeskOf, in_hand}
use Rattle.law_history.specs.Turns.{from_place}
use Rattle.law_closing.specs.Closing.{IsPlace}
use Rattle.chorus_net.specs.Closing.{journals_in, ports_of}
use Rattle.chorus_nucleus.specs.declared.leavings.Remains.{Remains}
use Rattle.chorus_nucleus.specs.declared.apart.Heap.{Heap}
use Rattle.chorus_nucleus.specs.declared.apart.Parted.{Parted}
use Rattle.chorus_nucleus.specs.Leavings.{hand_from, unreceived}
use Rattle.law_history.specs.Places.{by_link}

abbrev pub desk_at : ℕ → List (DeskOf Ruled Packet) → Option (DeskOf Ruled Packet)
desk_at p ds = slice_get ds (p - 1)

-- this is left of the place
pub record IsRemains (d : DeskOf Ruled Packet) (t : Remains) : Type 0 where
  pub ends : t.ends ≡ d.ends
  pub lists : t.out.lists ≡ d.place.out.lists
  pub hand : (a : ℕ) → hand_from a t ≡ from_place a (option_to_list (in_hand (λ f. f) d.hand))

abbrev pub places_in : List (DeskOf Ruled Packet) → List Place
places_in ds = map (λ (d : DeskOf Ruled Packet). d.place) ds

-- a place was taken apart: its journal and its ports stand behind the others
pub record TakesDesk (d : DeskOf Ruled Packet) (t : Remains) (old new : Heap) : Type 0 where
  pub remains : IsRemains d t
  pub journals : journals_of new.journals.items ≡ journals_of old.journals.items ++ reverse d.place.journal ∷ []
  pub ports : new.ports.items ≡ old.ports.items ++ placed_at d.place.number d.place.ports

abbrev pub AreRemains : List (DeskOf Ruled Packet) → List (Option Remains) → Type 0
AreRemains [] [] = Unit {0}
AreRemains (d ∷ ds) (Some t ∷ ts) = IsRemains d t × AreRemains ds ts
AreRemains _ _ = ⊥

-- all were
pub record TakesDesks (ds : List (DeskOf Ruled Packet)) (ts : List (Option Remains)) (old new : Heap) : Type 0 where
  pub remains : AreRemains ds ts
  pub journals : journals_of new.journals.items ≡ journals_of old.journals.items ++ journals_in (places_in ds)
  pub ports : new.ports.items ≡ old.ports.items ++ ports_of (places_in ds)

abbrev pub ends_of : Option (DeskOf Ruled Packet) → Ruled
ends_of None = no_ends
ends_of (Some d) = d.ends

abbrev pub held_from : ℕ → Option (DeskOf Ruled Packet) → List Packet
held_from a None = []
held_from a (Some d) = from_place a (option_to_list (in_hand (λ f. f) d.hand))

abbrev pub waits_to : ℕ → Option (DeskOf Ruled Packet) → List Packet
waits_to b None = []
waits_to b (Some d) = list_to b d.place.out.lists

abbrev pub ends_at : ℕ → List (DeskOf Ruled Packet) → Ruled
ends_at p ds = ends_of (desk_at p ds)

-- what the link from a to b gives back
abbrev pub left_between : List (DeskOf Ruled Packet) → ℕ → ℕ → List Packet
left_between ds a b = unreceived (end_to b (ends_at a ds)) (end_from a (ends_at b ds))

-- what b has in hand of a, what the link gives back, and what waits at a
abbrev pub goes_from : List (DeskOf Ruled Packet) → ℕ → ℕ → List Packet
goes_from ds a b = held_from a (desk_at b ds) ++ (left_between ds a b ++ waits_to b (desk_at a ds))

-- from each place to each other one there is a link
abbrev pub AreDesksLinked : List (DeskOf Ruled Packet) → Type 0
AreDesksLinked ds =
    (a b : ℕ) → IsPlace (length ds) a → IsPlace (length ds) b → b ≢ a
    → AreOfOneLink (end_to b (ends_at a ds)) (end_from a (ends_at b ds))

-- the journals, the packets by link, and the ports
pub record IsParted (ds : List (DeskOf Ruled Packet)) (h : Parted) : Type 0 where
  pub journals : journals_of h.journals.items ≡ journals_in (places_in ds)
  pub rest : h.rest.items ≡ by_link (length ds) (goes_from ds)
  pub ports : h.ports.items ≡ ports_of (places_in ds)
  pub settled : (a b : ℕ) → IsPlace (length ds) a → IsPlace (length ds) b → b ≢ a →
      sent_by (end_to b (ends_at a ds)) ≡ received_by (end_from a (ends_at b ds)) ++ left_between ds a b
