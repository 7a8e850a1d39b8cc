-- What a network stands for: a past, the list of the entries of all places in the order of the schedule, the newest
-- first. Each part of the network is a view of it (the abstraction relation of a forward simulation).
-- n is a network, l a layout, p, a and b are numbers of places, s is a place, q a port, g a group, k a port and route,
-- x an id.
use Rattle.std.specs.Prelude.{ℕ, ◌≡◌, ◌≤◌, true, List, [], map, Option, Some, None, slice_get}
use Rattle.std.specs.List.{filter}
use Rattle.std.specs.Option.{option_map}
use Rattle.chorus_ui.specs.declared.ui.Ui.{Ui}
use Rattle.chorus_ui.specs.declared.layout.Layout.{Layout}
use Rattle.chorus_ui.specs.Layout.{has_actor, place_at}
use Rattle.chorus_entry.specs.declared.entry.Entry.{Entry}
use Rattle.chorus_entry.specs.declared.id.MsgId.{MsgId}
use Rattle.chorus_ui.specs.NameKind.{is_actor}
use Rattle.chorus_world.specs.Views.{at, by}
use Rattle.chorus_world.specs.Places.{last_clock, located}
use Rattle.chorus_world.specs.Groups.{posts_to, unchosen}
use Rattle.chorus_world.specs.Seats.{posts, posts_stay, requests, hand}
use Rattle.chorus_world.specs.Runs.{is_run}
use Rattle.chorus_world.specs.Order.{IsCausal}
use Rattle.chorus_world.specs.SortingLaws.{AllLookAtHome}
use Rattle.chorus_ports.specs.Table.{find, are_distinct}
use Rattle.chorus_calls.specs.Callers.{Seated}
use Rattle.place_unsettled.specs.declared.wait.Key.{Key}
use Rattle.law_machine.specs.PlaceState.{PlaceState, newest}
use Rattle.law_network.specs.Packets.{AreByLink}
use Rattle.law_network.specs.Network.{NetState, place, place_numbers}
use Rattle.law_network.specs.Records.{record_at, queue_at, is_unheard, outstanding}
use Rattle.law_network.specs.UnderWay.{is_of, is_with, far_place, under_way, transfer, asked_for}

-- the actor of each seat
abbrev pub actor_of : NetState → ℕ → Option Ui
actor_of n seat = option_map (λ (caller : Seated). caller.actor) (slice_get n.callers seat)

-- the places are those of the layout, by their numbers
pub record AreOf (l : Layout) (places : List PlaceState) : Type 0 where
  pub numbers : map (λ (s : PlaceState). s.number) places ≡ place_numbers l
  pub layouts : map (λ (s : PlaceState). s.layout) places ≡ map (λ (p : ℕ). l) (place_numbers l)

-- the caller of a seat, of which `mine` are the entries: it has posted and called what they say, and at its home place
-- alone
pub record IsCaller (l : Layout) (past mine : List Entry) (number : ℕ) (caller : Seated) : Type 0 where
  pub seat : caller.seat ≡ number
  pub kind : is_actor caller.actor ≡ true
  pub actor : has_actor l caller.actor ≡ true
  pub posts : caller.posts ≡ posts mine
  pub given : caller.client.given ≡ requests mine
  pub call : caller.client.outstanding ≡ outstanding mine
  pub hand : caller.hand ≡ hand past mine
  pub clock : last_clock mine ≤ caller.last
  pub stays : posts_stay (place_at l caller.actor.site caller.actor) mine ≡ true

pub record Stands (n : NetState) (past : List Entry) : Type 0 where
  -- the past is a run for the callers, and clocks rise along each view of it
  pub run : is_run n.layout (actor_of n) past ≡ true
  pub causal : IsCausal past
  pub looks : AllLookAtHome n.layout past
  -- of each place its journal, its records, each once, its locations, its messages that wait, and what it may still
  -- hear of
  pub places : AreOf n.layout n.places
  pub journal : (p : ℕ) → (place p n).journal ≡ at p past
  pub ports : (p : ℕ) (q : Ui) → find q (place p n).ports ≡ record_at past q p
  pub once : (p : ℕ) → are_distinct (place p n).ports ≡ true
  pub known : (p : ℕ) (q : Ui) → newest (place p n) q ≡ located n.layout q (at p past)
  pub waiting : (p : ℕ) (k : Key) → (place p n).waiting k ≡ queue_at past p k
  pub unheard : (p : ℕ) (x : MsgId) → (place p n).unheard x ≡ is_unheard n.layout past p x
  -- the packets stand by their pairs of places; of each message and of each port one is under way or none; and of the
  -- posts to a group of b from a are asked for, in order, those without a choice
  pub order : AreByLink n.packets
  pub messages : (x : MsgId) → filter (is_of x) n.packets ≡ under_way n.layout past x
  pub transfers : (q : Ui) → filter (is_with q) n.packets ≡ transfer past q
  pub asks : (g : Ui) (a b : ℕ) → far_place n.layout a (Some g) ≡ Some b →
      asked_for g a b n.packets ≡ unchosen (at b past) (posts_to g (at a past))
  -- each caller, and nobody else
  pub callers : (seat : ℕ) (caller : Seated) → slice_get n.callers seat ≡ Some caller →
      IsCaller n.layout past (by seat past) seat caller
  pub strangers : (seat : ℕ) → slice_get n.callers seat ≡ None → by seat past ≡ []
