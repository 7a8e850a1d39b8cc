-- What becomes of each message that a port accepted: it was received, or discarded with its deleted port, or it waits
-- in one record or one Transfer. q and r are ports, i and j positions in them, x is the id of a message. A past has its
-- newest entry first.
use Rattle.std.specs.Prelude.{ℕ, ◌≡◌, ◌≤◌, ◌-◌, ◌↔◌, true, List, [], ◌∷◌, Some, slice_get}
use Rattle.std.specs.List.{All, flat_map}
use Rattle.chorus_ui.specs.declared.ui.Ui.{Ui}
use Rattle.chorus_ui.specs.declared.layout.Layout.{Layout}
use Rattle.chorus_ui.specs.Layout.{IsLayout}
use Rattle.chorus_entry.specs.declared.entry.Entry.{Entry}
use Rattle.chorus_entry.specs.declared.id.MsgId.{MsgId}
use Rattle.chorus_entry.specs.declared.act.Act.{Act}
use Rattle.chorus_entry.specs.declared.act.Act.TheVariants.{Make}
use Rattle.chorus_world.specs.Views.{on}
use Rattle.chorus_world.specs.Fates.{MessageFate}
use Rattle.chorus_world.specs.Fates.MessageFate.{Received, Discarded}
use Rattle.chorus_world.specs.Steps.{is_legal}
use Rattle.chorus_world.specs.Always.{LayoutAlways}
use Rattle.chorus_world.specs.AcceptedLaws.{accepted_by, taken_by, received, discarded}
use Rattle.law_network.specs.Holdings.{Holding, holding_told, StandsFor}
use Rattle.law_network.specs.EachMessage.{StandsByFate, HoldsAccepted}

-- The records and Transfers of the world at a moment.

-- the ports that were made
abbrev pub with_made : Act → List Ui → List Ui
with_made (Make q a n) qs = q ∷ qs
with_made _ qs = qs

abbrev pub ports_in : List Entry → List Ui
ports_in [] = []
ports_in (e ∷ past) = with_made e.act (ports_in past)

-- a record for each of them that is held, a Transfer for each that moves
abbrev pub holdings_told : List Entry → List Holding
holdings_told past = flat_map (holding_told past) (ports_in past)

-- What became of a message: one of four.

-- a Take entry of the port has it, at its position
abbrev pub IsReceived : List Entry → Ui → ℕ → MsgId → Type 0
IsReceived past q i x = slice_get (received (on q past)) i ≡ Some x

-- the Delete entry of the port has it, behind those that were received
abbrev pub IsDiscarded : List Entry → Ui → ℕ → MsgId → Type 0
IsDiscarded past q i x =
    (xs : List MsgId) × (discarded (on q past) ≡ Some xs) × (taken_by q past ≤ i)
    × (slice_get xs (i - taken_by q past) ≡ Some x)

-- The entries tell exactly where it was received or discarded, and then it waits in none of the holdings; else it waits
-- in one of them, a record at a place or one in a Transfer, once.
pub record HasFate (past : List Entry) (holdings : List Holding) (q : Ui) (i : ℕ) (x : MsgId)
    (what : MessageFate) : Type 0 where
  pub received : IsReceived past q i x ↔ (what ≡ Received)
  pub discarded : IsDiscarded past q i x ↔ (what ≡ Discarded)
  pub waits : StandsByFate holdings q i x what

-- Each message that a port accepted stands at one position of one port and has one fate; and nothing else waits in the
-- holdings.
pub record HoldsByFate (past : List Entry) (holdings : List Holding) : Type 0 where
  pub alone : (q r : Ui) (i j : ℕ) (x : MsgId) → slice_get (accepted_by q past) i ≡ Some x →
      slice_get (accepted_by r past) j ≡ Some x → (q ≡ r) × (i ≡ j)
  pub each : (q : Ui) (i : ℕ) (x : MsgId) → slice_get (accepted_by q past) i ≡ Some x →
      (what : MessageFate) × HasFate past holdings q i x what
  pub only : All (HoldsAccepted past) holdings

-- so it is of the records and Transfers of the world
abbrev pub WorldHolds : List Entry → Type 0
WorldHolds past = HoldsByFate past (holdings_told past)

-- it always is, of a legal list over a layout that may be
abbrev pub WorldsHoldByFate : Type 0
WorldsHoldByFate = LayoutAlways WorldHolds

-- and of all holdings that stand for such a list
abbrev pub HoldingsHoldByFate : Type 0
HoldingsHoldByFate =
    (l : Layout) (past : List Entry) (holdings : List Holding) → IsLayout l → is_legal l past ≡ true →
    StandsFor past holdings → HoldsByFate past holdings
