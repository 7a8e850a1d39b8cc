-- A message to a port that is located here, where none waits for it: it is decided at once.
-- q is the port, m the message, s the place, t the turn.
use Rattle.std.specs.Prelude.{ℕ, ◌≡◌, true, None}
use Rattle.chorus_ui.specs.declared.ui.Ui.{Ui}
use Rattle.chorus_ui.specs.Layout.{has_site}
use Rattle.chorus_entry.specs.declared.message.Message.{Message}
use Rattle.chorus_entry.specs.declared.answer.Answer.{Answer}
use Rattle.place_unsettled.specs.Queues.{empty_queue}
use Rattle.law_machine.specs.PlaceState.{PlaceState, Turn, newest, unchanged, say}
use Rattle.law_machine.specs.Deciding.{decide, decision, records_after}
use Rattle.law_machine.specs.Doing.{direct}

-- no direct message waits for the port, and it is located here, by this hop
pub record IsFree (q : Ui) (hop : ℕ) (s : PlaceState) : Type 0 where
  pub site : has_site s.layout q.site ≡ true
  pub queue : s.waiting (direct q) ≡ empty_queue
  pub here : newest s q ≡ record { to = s.number; hop = hop }

-- the message has this answer here, where it was tried with the hop `tried`
abbrev pub gets : Message → Ui → ℕ → Answer → Turn → Turn
gets m q tried answer t =
    say (decision m.id q tried answer) (record (unchanged t) { ports = records_after answer m q t.place.ports }) t

-- and that is what the place decides
abbrev pub decided : Message → Ui → ℕ → Turn → Turn
decided m q tried t = gets m q tried (decide m q None tried t.place) t
