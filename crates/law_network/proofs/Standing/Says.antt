-- What an entry of a turn owes, so that the network stands for the past with it.
use Rattle.std.specs.Prelude.{ℕ, ◌≡◌, ◌≤◌, ◌==◌, max, Bool, true, false, List, ◌∷◌, Option}
use Rattle.std.specs.List.{filter}
use Rattle.chorus_ui.specs.declared.ui.Ui.{Ui}
use Rattle.chorus_ui.specs.Layout.{place_at}
use Rattle.chorus_entry.specs.declared.entry.Entry.{Entry}
use Rattle.chorus_entry.specs.declared.act.Act.{Act}
use Rattle.chorus_entry.specs.declared.record.PortRecord.{PortRecord}
use Rattle.chorus_entry.specs.Act.{message_of, held_port_of}
use Rattle.chorus_entry.specs.Kinds.{has_kinds}
use Rattle.chorus_world.specs.Views.{at, by, is_about, is_on}
use Rattle.chorus_world.specs.Places.{last_clock, just_taken}
use Rattle.chorus_world.specs.Seats.{posts_after, requests_after, hand_after, stays_at}
use Rattle.chorus_world.specs.Steps.{may_stand_behind}
use Rattle.chorus_world.specs.Runs.{fits_caller}
use Rattle.chorus_world.specs.SortingLaws.{LooksAtHome}
use Rattle.chorus_world.proofs.Sorted.Local.{local_views, act_may_here}
use Rattle.chorus_ports.specs.Table.{find, are_distinct}
use Rattle.chorus_calls.specs.Callers.{Seated}
use Rattle.chorus_entry.specs.declared.id.MsgId.{MsgId}
use Rattle.place_unsettled.specs.declared.wait.Key.{Key}
use Rattle.place_unsettled.specs.Queues.{Queue}
use Rattle.law_machine.specs.declared.outgoing.Outgoing.{Outgoing}
use Rattle.law_machine.specs.PlaceState.{Turn, Change, next_entry}
use Rattle.law_network.specs.Records.{record_at, queue_at, outstanding}
use Rattle.law_network.proofs.Tables.Learning.{IsKnown}
use Rattle.law_network.proofs.Tables.Hearing.{IsUnheard}
use Rattle.law_network.proofs.Standing.InTurn.{ArePackets}

-- the greatest clock that the place and the caller know
abbrev pub known_clock : Turn → ℕ
known_clock t = max (last_clock t.place.journal) t.caller.last

-- the caller after it
pub record CallerSays (past : List Entry) (t : Turn) (a : Act) (c : Seated) : Type 0 where
  pub seat : c.seat ≡ t.caller.seat
  pub actor : c.actor ≡ t.caller.actor
  pub posts : c.posts ≡ posts_after a t.caller.posts
  pub given : c.client.given ≡ requests_after a t.caller.client.given
  pub call : c.client.outstanding ≡ outstanding (next_entry a t ∷ by t.caller.seat past)
  pub hand : c.hand ≡ hand_after (next_entry a t ∷ past) a t.caller.hand
  pub stays : stays_at (place_at t.place.layout t.caller.actor.site t.caller.actor) t.place.number a ≡ true

-- the records after it, and those of the other places
pub record PortsSay (past : List Entry) (e : Entry) (ports : List PortRecord) : Type 0 where
  pub once : are_distinct ports ≡ true
  pub here : (q : Ui) → find q ports ≡ record_at (e ∷ past) q e.place
  pub there : (p : ℕ) → (e.place == p) ≡ false → (q : Ui) → record_at (e ∷ past) q p ≡ record_at past q p

-- where the place locates each port after it, what waits there, and what it may hear of
pub record TablesSay (past : List Entry) (t : Turn) (a : Act) (knows : Ui → Option (ℕ × ℕ)) (waits : Key → Queue) (hears : MsgId → Bool) : Type 0 where
  pub known : IsKnown t.place.layout knows (next_entry a t ∷ at t.place.number past)
  pub waiting : (k : Key) → waits k ≡ queue_at (next_entry a t ∷ past) t.place.number k
  pub unheard : IsUnheard t.place.layout (next_entry a t ∷ past) t.place.number hears

-- that it may come next, as far as its own views tell
pub record MaySay (past : List Entry) (t : Turn) (a : Act) : Type 0 where
  pub kinds : has_kinds a ≡ true
  pub behind : may_stand_behind (just_taken past (at t.place.number past)) a ≡ true
  pub may : act_may_here t.place.layout (local_views past past t.place.number t.caller.seat a) t.place.number t.caller.seat a ≡ true
  pub fits : fits_caller past t.place.number t.caller.actor a ≡ true
  pub looks : LooksAtHome t.place.layout t.place.number a
  pub message : last_clock (filter (is_about (message_of a)) past) ≤ known_clock t
  pub port : last_clock (filter (is_on (held_port_of a)) past) ≤ known_clock t

-- `os` are all packets that are under way after it
pub record Says (os : List Outgoing) (past : List Entry) (t : Turn) (a : Act) (c : Change) : Type 0 where
  pub may : MaySay past t a
  pub caller : CallerSays past t a c.caller
  pub ports : PortsSay past (next_entry a t) c.ports
  pub tables : TablesSay past t a c.known c.waiting c.unheard
  pub packets : ArePackets t.place.layout os (next_entry a t ∷ past)
