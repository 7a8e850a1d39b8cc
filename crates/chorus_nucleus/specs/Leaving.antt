-- The places of a nucleus, as they were handed back when its table was closed.
-- l is the layout, ss are the places, ds the same without their boards, that of place p at p - 1, a, b and p are
-- numbers of places.
use Rattle.std.specs.Prelude.{ℕ, ◌≡◌, ◌≢◌, ◌==◌, ◌+◌, cond, List, [], ◌++◌, length, map, reverse, slice_get, Option, Some, None}
use Rattle.chorus_ui.specs.declared.layout.Layout.{Layout}
use Rattle.chorus_ui.specs.Layout.{IsLayout, places}
use Rattle.chorus_entry.specs.declared.packet.Packet.{Packet}
use Rattle.law_machine.specs.PlaceState.{PlaceState, started}
use Rattle.chorus_place.specs.Calls.{state}
use Rattle.chorus_ruled_ends.specs.Ruled.{Ruled, links}
use Rattle.chorus_serve.specs.Desks.{DeskOf, seen}
use Rattle.chorus_turn.specs.declared.knowledge.Remarked.{Remarked}
use Rattle.chorus_turn.specs.declared.knowledge.Knowledge.{Knowledge}
use Rattle.chorus_turn.specs.Passes as turns
use Rattle.chorus_turn.specs.Journals.{entries_of}
use Rattle.law_closing.specs.Closing.{IsPlace}
use Rattle.law_closing.specs.Behind.{AllStandBehind}
use Rattle.law_closing.specs.Places.{PlaceNote, ArePlacesClosed}
use Rattle.chorus_nucleus.specs.declared.site_turns.site.Site.{Site}
use Rattle.chorus_nucleus.specs.SiteTurns.Sites.{sent_in, waits_in, received_in, held_in}
use Rattle.chorus_nucleus.specs.Apart.{desk_at, left_between, AreDesksLinked}
use Rattle.chorus_nucleus.specs.declared.close.Shut.{Shut}
use Rattle.chorus_nucleus.specs.declared.nucleus.Nucleus.{Nucleus}
use Rattle.chorus_nucleus.specs.declared.pass.Pass.{Pass}
use Rattle.chorus_nucleus.specs.Passes.{layout_of, known, worn_by}

abbrev pub desks_in : List (Site Ruled Packet) → List (DeskOf Ruled Packet)
desks_in ss = map (λ (s : Site Ruled Packet). s.desk) ss

-- of a place that was handed back, the state, and by places what was sent, waits, was received and is in hand

abbrev pub state_of : Layout → ℕ → Option (DeskOf Ruled Packet) → PlaceState
state_of l p None = started l p
state_of l p (Some d) = state d.place

abbrev pub sent_of : Layout → ℕ → Option (DeskOf Ruled Packet) → ℕ → List Packet
sent_of l p None b = []
sent_of l p (Some d) b = sent_in l p (links d.ends) b

abbrev pub waits_of : Layout → ℕ → List (Remarked PlaceNote) → Option (DeskOf Ruled Packet) → ℕ → List Packet
waits_of l p log None b = []
waits_of l p log (Some d) b = waits_in l p d.place.out.lists log b

abbrev pub received_of : Layout → ℕ → Option (DeskOf Ruled Packet) → ℕ → List Packet
received_of l p None a = []
received_of l p (Some d) a = received_in l p (links d.ends) a

abbrev pub held_of : Layout → ℕ → Option (DeskOf Ruled Packet) → ℕ → List Packet
held_of l p None a = []
held_of l p (Some d) a = held_in l p (seen links (λ f. f) d).hand a

-- what was sent from each place to each other one is what was received, followed by what is left; of a place to itself
-- nothing is left
pub record AreSettled (l : Layout) (ds : List (DeskOf Ruled Packet)) (left : ℕ → ℕ → List Packet) : Type 0 where
  pub each : (a b : ℕ) → IsPlace (places l) a → IsPlace (places l) b → a ≢ b →
      sent_of l a (desk_at a ds) b ≡ received_of l b (desk_at b ds) a ++ left a b
  pub own : (a : ℕ) → left a a ≡ []

-- what the links give back; of a place to itself nothing
abbrev pub left_at : List (DeskOf Ruled Packet) → ℕ → ℕ → List Packet
left_at ds a b = cond (b == a) [] (left_between ds a b)

-- these places were closed, with this left on their links
abbrev pub AreClosedWith : Layout → (ℕ → List (Remarked PlaceNote)) → Knowledge PlaceNote → List (DeskOf Ruled Packet)
    → (ℕ → ℕ → List Packet) → Type 0
AreClosedWith l log v ds left =
    ArePlacesClosed l log v (λ p. state_of l p (desk_at p ds)) (λ a b. sent_of l a (desk_at a ds) b)
    (λ a b. waits_of l a (log a) (desk_at a ds) b)
    (λ a b. received_of l b (desk_at b ds) a) (λ a b. held_of l b (desk_at b ds) a) left

-- the table was closed: there is a link from each place to each other one; the journals with remarks are those of the
-- places; and however the links are settled, the places were closed
pub record IsShut (n : Nucleus) (pass : Pass) (s : Shut) : Type 0 where
  pub worn : s.worn ≡ worn_by pass
  pub behind : AllStandBehind (known pass)
  pub left : turns.IsLeftOf n.turns pass.turner s.spent
  pub shape : IsLayout (layout_of n)
  pub count : length s.sites.items ≡ places (layout_of n)
  pub linked : AreDesksLinked (desks_in s.sites.items)
  pub log : ℕ → List (Remarked PlaceNote)
  pub told : (k : ℕ) (d : DeskOf Ruled Packet) → slice_get (desks_in s.sites.items) k ≡ Some d
      → entries_of (log (k + 1)) ≡ reverse d.place.journal
  pub closed : (rest : ℕ → ℕ → List Packet) → AreSettled (layout_of n) (desks_in s.sites.items) rest
      → AreClosedWith (layout_of n) log (known pass) (desks_in s.sites.items) rest
