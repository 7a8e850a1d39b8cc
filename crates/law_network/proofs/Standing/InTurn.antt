-- What a network within a turn stands for. The place and the caller of the turn are those of the turn, all others those of
-- the network, and `os` are all packets that are under way.
use Rattle.std.specs.Prelude.{ℕ, ◌≡◌, ◌==◌, true, false, List, [], Some, None, slice_get}
use Rattle.std.specs.List.{filter}
use Rattle.chorus_ui.specs.declared.ui.Ui.{Ui}
use Rattle.chorus_ui.specs.declared.layout.Layout.{Layout}
use Rattle.chorus_ui.specs.Layout.{IsLayout, has_place}
use Rattle.chorus_entry.specs.declared.entry.Entry.{Entry}
use Rattle.chorus_entry.specs.declared.id.MsgId.{MsgId}
use Rattle.chorus_world.specs.Views.{at, by}
use Rattle.chorus_world.specs.Places.{just_taken, located}
use Rattle.chorus_world.specs.Groups.{posts_to, unchosen}
use Rattle.chorus_world.specs.Runs.{is_run}
use Rattle.chorus_world.specs.Order.{IsCausal}
use Rattle.chorus_world.specs.SortingLaws.{AllLookAtHome}
use Rattle.chorus_ports.specs.Table.{find, are_distinct}
use Rattle.chorus_calls.specs.Callers.{Seated}
use Rattle.place_unsettled.specs.declared.wait.Key.{Key}
use Rattle.law_machine.specs.declared.outgoing.Outgoing.{Outgoing}
use Rattle.law_machine.specs.PlaceState.{PlaceState, Turn, newest}
use Rattle.law_network.specs.Packets.{AreByLink}
use Rattle.law_network.specs.Network.{NetState, place}
use Rattle.law_network.specs.Records.{record_at, queue_at, is_unheard}
use Rattle.law_network.specs.UnderWay.{is_of, is_with, far_place, under_way, transfer, asked_for}
use Rattle.law_network.specs.Stands.{IsCaller, actor_of}

-- the place p of the layout
pub record IsPlace (l : Layout) (past : List Entry) (p : ℕ) (s : PlaceState) : Type 0 where
  pub journal : s.journal ≡ at p past
  pub ports : (q : Ui) → find q s.ports ≡ record_at past q p
  pub once : are_distinct s.ports ≡ true
  pub known : (q : Ui) → newest s q ≡ located l q (at p past)
  pub waiting : (k : Key) → s.waiting k ≡ queue_at past p k
  pub unheard : (x : MsgId) → s.unheard x ≡ is_unheard l past p x

-- the packets
pub record ArePackets (l : Layout) (os : List Outgoing) (past : List Entry) : Type 0 where
  pub order : AreByLink os
  pub messages : (x : MsgId) → filter (is_of x) os ≡ under_way l past x
  pub transfers : (q : Ui) → filter (is_with q) os ≡ transfer past q
  pub asks : (g : Ui) (a p : ℕ) → far_place l a (Some g) ≡ Some p →
      asked_for g a p os ≡ unchosen (at p past) (posts_to g (at a past))

pub record InTurn (n : NetState) (os : List Outgoing) (past : List Entry) (t : Turn) : Type 0 where
  pub shape : IsLayout t.place.layout
  pub layout : n.layout ≡ t.place.layout
  pub is_place : has_place t.place.layout t.place.number ≡ true
  pub seated : actor_of n t.caller.seat ≡ Some t.caller.actor
  pub run : is_run t.place.layout (actor_of n) past ≡ true
  pub causal : IsCausal past
  pub looks : AllLookAtHome t.place.layout past
  pub here : IsPlace t.place.layout past t.place.number t.place
  pub there : (p : ℕ) → (t.place.number == p) ≡ false → IsPlace t.place.layout past p (place p n)
  -- at no other place a reply was just taken
  pub resting : (p : ℕ) → (t.place.number == p) ≡ false → just_taken past (at p past) ≡ None
  pub caller : IsCaller t.place.layout past (by t.caller.seat past) t.caller.seat t.caller
  pub callers : (k : ℕ) (c : Seated) → (t.caller.seat == k) ≡ false → slice_get n.callers k ≡ Some c → IsCaller t.place.layout past (by k past) k c
  pub strangers : (k : ℕ) → slice_get n.callers k ≡ None → by k past ≡ []
  pub packets : ArePackets t.place.layout os past
