-- Replies of turns that a place took, whoever took turns elsewhere at the same time.
-- l is a layout, p the number of a place, s a place, w a caller, es are the entries of a turn, the oldest first; ts are
-- the turns that led from the started place to s.
use Rattle.std.specs.Prelude.{ℕ, ◌≡◌, ◌↔◌, true, List, ◌++◌, reverse, Some}
use Rattle.chorus_ui.specs.declared.ui.Ui.{Ui}
use Rattle.chorus_ui.specs.declared.layout.Layout.{Layout}
use Rattle.chorus_entry.specs.declared.entry.Entry.{Entry}
use Rattle.chorus_entry.specs.declared.command.Command.{Command}
use Rattle.chorus_ports.specs.Table.{find}
use Rattle.chorus_calls.specs.Callers.{Seated}
use Rattle.law_machine.specs.declared.reply.Reply.{Reply}
use Rattle.law_machine.specs.PlaceState.{PlaceState, started}
use Rattle.law_machine.specs.Doing.{first_message}
use Rattle.law_machine.specs.PlaceMachine.{begun, act}
use Rattle.law_machine.specs.Replies.{reply}
use Rattle.law_history.specs.Histories.{Takes}
use Rattle.law_history.specs.PlaceTurns.{machine}
use Rattle.law_history.specs.Journals.{PlaceTurn}
use Rattle.law_replies.specs.Replies.{Tells}
use Rattle.law_replies.specs.Taking.{acts_of, taken_acts, answers_take}

-- the entries of the turn that the command takes
abbrev pub AppendsAll : Command → PlaceState → Seated → List Entry → Type 0
AppendsAll command s w es = (act command (begun s w)).place.journal ≡ reverse es ++ s.journal

-- at a place that was started and took turns, a command gets the reply that its entries tell, and no other one; a
-- message that it receives waited first in the port
abbrev pub TurnsTell : Type 0
TurnsTell =
    (l : Layout) (p : ℕ) (ts : List PlaceTurn) (s : PlaceState) (w : Seated) (command : Command) (es : List Entry)
    (r : Reply) → Takes (machine l) p (started l p) ts s → AppendsAll command s w es →
    (reply command (begun s w) ≡ r) ↔ Tells (λ q m. first_message (find q s.ports) ≡ Some m) es r

-- a take appends just the acts that its reply tells, in order: the Take with what ends the call behind it, or one
-- Empty, or one NotHere
abbrev pub TakesAppend : Type 0
TakesAppend =
    (s : PlaceState) (w : Seated) (q : Ui) (es : List Entry) → AppendsAll (Command.Take q) s w es →
    (acts_of es ≡ taken_acts q (reply (Command.Take q) (begun s w)))
    × (answers_take (reply (Command.Take q) (begun s w)) ≡ true)
