-- What any crew took: each message is the one that was posted, and stands at its position; and positions follow one
-- another in the order of the takes.
-- n is a nucleus, p its closing pass, closed what was closed, v what a pass knew before, q a port, m the note of a pass
-- of a crew, a an act.
use Rattle.std.specs.Prelude.{ℕ, ◌≡◌, if◌then◌else◌, List, [], ◌∷◌, ◌++◌, map, Some, slice_get}
use Rattle.std.specs.List.{All, Contains}
use Rattle.chorus_ui.specs.declared.ui.Ui.{Ui}
use Rattle.chorus_ui.specs.Name.{same_ui}
use Rattle.chorus_entry.specs.declared.entry.Entry.{Entry}
use Rattle.chorus_entry.specs.declared.act.Act.{Act}
use Rattle.chorus_world.specs.AcceptedLaws.{accepted_by}
use Rattle.chorus_world.specs.SentLaws.{StandsIn}
use Rattle.law_replies.specs.AsPosted.{IsAsPosted}
use Rattle.law_closing.specs.Places.{PlaceNote}
use Rattle.chorus_turn.specs.declared.knowledge.Note.{Note}
use Rattle.chorus_turn.specs.declared.knowledge.Knowledge.{Knowledge}
use Rattle.chorus_net.specs.declared.closed.Closed.{Closed}
use Rattle.chorus_net.specs.Closing.{past_of}
use Rattle.chorus_nucleus.specs.declared.nucleus.Nucleus.{Nucleus}
use Rattle.chorus_nucleus.specs.declared.pass.Pass.{Pass}
use Rattle.chorus_nucleus.specs.Passes.{known, layout_of}
use Rattle.chorus_nucleus.specs.Closing.{IsClosed}
use Rattle.chorus_nucleus.specs.declared.taken_message.TakenMessage.{TakenMessage}
use Rattle.chorus_nucleus.specs.Taking.{acts_made, SeesMore}
use Rattle.chorus_crew.specs.Handling.{AreGiven, took_acts}
use Rattle.law_crews.specs.Passes.{passes_of}
use Rattle.law_crews.specs.Positions.{TakesInOrder}

-- an entry of the past hands the message out to the seat; the message stands at its position among those that its port
-- accepted, and is the one that was posted
pub record WasTaken (past : List Entry) (seat : ℕ) (q : Ui) (t : TakenMessage) : Type 0 where
  pub entry : Entry
  pub stands : StandsIn entry past
  pub act : entry.act ≡ Act.Take q t.position t.message.id
  pub seat_is : entry.seat ≡ seat
  pub position : slice_get (accepted_by q past) t.position ≡ Some t.message.id
  pub posted : IsAsPosted t.message past

-- Of any crew, any time before the nucleus was closed: `took` are the messages of a pair, as a crew's clauses have
-- them, and `rest` what its pass made behind them, whether the pair was done to its end or stopped.
abbrev pub CrewsTookWhatWasPosted : Type 0
CrewsTookWhatWasPosted =
    (n : Nucleus) (p : Pass) (closed : Closed) (v : Knowledge PlaceNote) (q : Ui) (m : Note PlaceNote)
    (took : List TakenMessage) (rest : List Act) → IsClosed n p closed → SeesMore v (known p) →
    Contains (known p).notes m → AreGiven (layout_of n) q took v → acts_made m.mine ≡ took_acts q took ++ rest →
    All (WasTaken (past_of closed) m.seat q) took

-- The order of the takes.

-- the position at which the act takes from the port, if it does
abbrev pub position_in : Ui → Act → List ℕ
position_in q (Act.Take r n x) = if same_ui q r then n ∷ [] else []
position_in q _ = []

-- those of acts, in their order
abbrev pub positions_in : Ui → List Act → List ℕ
positions_in q [] = []
positions_in q (a ∷ acts) = position_in q a ++ positions_in q acts

-- of each pass, and each port: its takes, in the order in which it made them
abbrev pub PassesTakeInOrder : Type 0
PassesTakeInOrder =
    (n : Nucleus) (p : Pass) (closed : Closed) (q : Ui) (m : Note PlaceNote) → IsClosed n p closed →
    Contains (passes_of (known p)) m → TakesInOrder (past_of closed) m.seat q (positions_in q (acts_made m.mine))

-- so of the messages of each pair of a crew, in the order in which they were handled
abbrev pub CrewsTookInOrder : Type 0
CrewsTookInOrder =
    (n : Nucleus) (p : Pass) (closed : Closed) (q : Ui) (m : Note PlaceNote) (took : List TakenMessage)
    (rest : List Act) → IsClosed n p closed → Contains (known p).notes m →
    acts_made m.mine ≡ took_acts q took ++ rest →
    TakesInOrder (past_of closed) m.seat q (map (λ (t : TakenMessage). t.position) took)
