-- What callers of running places are told, for histories of places and callers: at any moment of any place.
-- l is a layout, p the number of a place, s the place when it had taken the turns `older`, w a caller, x an id.
use Rattle.std.specs.Prelude.{ℕ, ◌≡◌, List, ◌++◌, Option}
use Rattle.chorus_ui.specs.declared.layout.Layout.{Layout}
use Rattle.chorus_ui.specs.Layout.{IsLayout}
use Rattle.chorus_entry.specs.declared.command.Command.{Command}
use Rattle.chorus_entry.specs.declared.id.MsgId.{MsgId}
use Rattle.chorus_entry.specs.declared.message.Message.{Message}
use Rattle.chorus_entry.specs.declared.packet.Packet.{Packet}
use Rattle.chorus_calls.specs.declared.client.Settle.{Settle}
use Rattle.chorus_calls.specs.Callers.{Seated}
use Rattle.law_machine.specs.declared.reply.Reply.{Reply}
use Rattle.law_machine.specs.PlaceState.{PlaceState, started}
use Rattle.law_machine.specs.PlaceMachine.{begun}
use Rattle.law_machine.specs.Replies.{reply}
use Rattle.law_history.specs.Network.{Network}
use Rattle.law_history.specs.Histories.{Takes}
use Rattle.law_history.specs.PlaceTurns.{machine}
use Rattle.law_history.specs.Journals.{PlaceTurn, Comer, AreHistories}
use Rattle.law_history.specs.Runs.{merged_at}
use Rattle.law_replies.specs.AsPosted.{IsAsPosted}
use Rattle.law_replies.specs.Outcomes.{OutcomeIsTrue}

-- of histories: some first turns of the place p led it to s
pub record LedTo (l : Layout) (comers : List Comer) (places seats : ℕ → List PlaceTurn)
    (closing : Network PlaceState Seated Packet) (p : ℕ) (s : PlaceState) : Type 0 where
  pub shape : IsLayout l
  pub histories : AreHistories l comers places seats closing
  pub older : List PlaceTurn
  pub later : List PlaceTurn
  pub turns : places p ≡ older ++ later
  pub leads : Takes (machine l) p (started l p) older s

-- a message that is received there stands as posted in the merge of the journals
abbrev pub HistoriesTakePosted : Type 0
HistoriesTakePosted =
    (l : Layout) (comers : List Comer) (places seats : ℕ → List PlaceTurn) (closing : Network PlaceState Seated Packet)
    (p : ℕ) (s : PlaceState) → LedTo l comers places seats closing p s → (w : Seated) (command : Command) (position : ℕ)
    (m : Message) (settled : Option Settle) → reply command (begun s w) ≡ Reply.Taken position m settled →
    IsAsPosted m (merged_at l closing)

-- and an outcome there is true of the merge
abbrev pub HistoriesOutcomes : Type 0
HistoriesOutcomes =
    (l : Layout) (comers : List Comer) (places seats : ℕ → List PlaceTurn) (closing : Network PlaceState Seated Packet)
    (p : ℕ) (s : PlaceState) → LedTo l comers places seats closing p s → (x : MsgId) →
    OutcomeIsTrue x s.journal (merged_at l closing)
