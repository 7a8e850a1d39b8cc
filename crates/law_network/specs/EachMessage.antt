-- Each message that a port accepted stands in holdings by its fate: once, in one of them, where it is queued or under
-- way; and in none, where it was received or discarded.
-- q is a port, i a position in it, x the id of a message, f what became of a port, j a number. A past has its newest
-- entry first.
use Rattle.std.specs.Prelude.{ℕ, ◌≡◌, ◌≤◌, ◌+◌, ◌-◌, Bool, false, ◌||◌, List, [], ◌∷◌, map, Some, slice_get}
use Rattle.std.specs.List.{All, filter}
use Rattle.chorus_ui.specs.declared.ui.Ui.{Ui}
use Rattle.chorus_entry.specs.declared.entry.Entry.{Entry}
use Rattle.chorus_entry.specs.declared.id.MsgId.{MsgId}
use Rattle.chorus_entry.specs.declared.message.Message.{Message}
use Rattle.chorus_entry.specs.MsgId.{same_id}
use Rattle.chorus_world.specs.Views.{on}
use Rattle.chorus_world.specs.Ports.{PortState, fate}
use Rattle.chorus_world.specs.Fates.{MessageFate, fate_at}
use Rattle.chorus_world.specs.Fates.MessageFate.{Received, Queued, UnderWay, Discarded}
use Rattle.chorus_world.specs.AcceptedLaws.{accepted_by, KeepsEachMessage}
use Rattle.law_network.specs.Holdings.{Holding, At, OnTheWay, record_in, StandsFor, holdings_in, holdings_left}
use Rattle.law_network.specs.Left.{placed, packets_left, merged_past}
use Rattle.law_network.specs.Schedules.{OfSchedules}

-- the ids of the messages that wait in the record of a holding, in order
abbrev pub waiting_in : Holding → List MsgId
waiting_in holding = map (λ (m : Message). m.id) (record_in holding).pending

abbrev pub is_among : MsgId → List MsgId → Bool
is_among x [] = false
is_among x (y ∷ ys) = same_id x y || is_among x ys

abbrev pub is_waiting_in : MsgId → Holding → Bool
is_waiting_in x holding = is_among x (waiting_in holding)

-- the fate of what waits in it: a record at a place is a queue, one on its way is in a Transfer
abbrev pub fate_in : Holding → MessageFate
fate_in (At place port) = Queued
fate_in (OnTheWay from to port) = UnderWay

-- x waits in one of the holdings, of this port and for this fate, at its position behind those taken; in no other; and
-- there once
pub record WaitsOnce (holdings : List Holding) (q : Ui) (i : ℕ) (x : MsgId) (what : MessageFate) : Type 0 where
  pub holding : Holding
  pub is : fate_in holding ≡ what
  pub port : (record_in holding).ui ≡ q
  pub position : ((record_in holding).first ≤ i) × (slice_get (waiting_in holding)
      (i - (record_in holding).first) ≡ Some x)
  pub alone : filter (is_waiting_in x) holdings ≡ holding ∷ []
  pub once : filter (same_id x) (waiting_in holding) ≡ x ∷ []

-- what was received, or discarded with its deleted port, waits in none of them
abbrev pub StandsByFate : List Holding → Ui → ℕ → MsgId → MessageFate → Type 0
StandsByFate holdings q i x Received = filter (is_waiting_in x) holdings ≡ []
StandsByFate holdings q i x Queued = WaitsOnce holdings q i x Queued
StandsByFate holdings q i x UnderWay = WaitsOnce holdings q i x UnderWay
StandsByFate holdings q i x Discarded = filter (is_waiting_in x) holdings ≡ []

-- what waits in the holding was accepted by its port, at its position
abbrev pub HoldsAccepted : List Entry → Holding → Type 0
HoldsAccepted past holding =
    (j : ℕ) (x : MsgId) → slice_get (waiting_in holding) j ≡ Some x →
    slice_get (accepted_by (record_in holding).ui past) ((record_in holding).first + j) ≡ Some x

-- each accepted message stands in the holdings by its fate, and nothing else waits in them
pub record HoldEachMessage (past : List Entry) (holdings : List Holding) : Type 0 where
  pub each : (q : Ui) (i : ℕ) (x : MsgId) (f : PortState) → fate (on q past) ≡ Some f →
      slice_get f.accepted i ≡ Some x →
      StandsByFate holdings q i x (fate_at i f)
  pub only : All (HoldsAccepted past) holdings

-- so it is of all holdings that stand for a past in which each message has one fate
abbrev pub HoldingsHoldEach : Type 0
HoldingsHoldEach =
    (past : List Entry) (holdings : List Holding) → StandsFor past holdings → KeepsEachMessage past →
    HoldEachMessage past holdings

-- of those of a network, and of those of a network that was closed
abbrev pub NetworksHoldEach : Type 0
NetworksHoldEach = OfSchedules (λ l es n. HoldEachMessage (merged_past n) (holdings_in n))

abbrev pub ClosedHoldEach : Type 0
ClosedHoldEach = OfSchedules (λ l es n. HoldEachMessage (merged_past n) (holdings_left l (placed n) (packets_left n)))
