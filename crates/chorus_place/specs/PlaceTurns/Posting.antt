-- A message is posted to a port: what is ready then.
-- p is the tables of a place, q a port, m a message, w its copy, c the caller.
use Rattle.std.specs.Prelude.{ℕ, ◌≡◌, ◌+◌, ◌-◌, ◌<◌, ◌≤◌, ◌^◌, List, [], ◌∷◌, length, Option, Some, None}
use Rattle.chorus_ui.specs.declared.ui.Ui.{Ui}
use Rattle.chorus_ui.specs.declared.kind.Kind.TheVariants as kinds
use Rattle.chorus_entry.specs.declared.message.Message.{Message}
use Rattle.chorus_entry.specs.declared.tag.Tag.{Tag}
use Rattle.chorus_entry.specs.declared.answer.Answer.{Answer}
use Rattle.chorus_entry.specs.declared.answer.Answer.TheVariants as A
use Rattle.chorus_entry.specs.Act.{answer_of}
use Rattle.chorus_entry.specs.declared.entry.Entry.{Entry}
use Rattle.place_unsettled.specs.Queues.{room}
use Rattle.chorus_calls.specs.Callers.{Seated}
use Rattle.law_machine.specs.Own.{next_message}
use Rattle.law_machine.specs.Doing.{direct, post}
use Rattle.chorus_place.specs.declared.turns.messages.ReadyPost.{ReadyPost}
use Rattle.chorus_place.specs.declared.turns.messages.Way.{Way}
use Rattle.place_unsettled.specs.declared.wait.Wait.{Wait}
use Rattle.chorus_place.specs.PlaceTables.Tables.{Tables, state, IsSound}
use Rattle.chorus_place.specs.PlaceTables.AtOnce.{IsFree}
use Rattle.chorus_place.specs.PlaceTables.Going.{waits_for, reports_for, leaving_after}

-- the caller's next message, with this tag and body, may be posted to the port
pub record MayPostTo (q : Ui) (tag : Tag) (body : List ℕ) (c : Seated) : Type 0 where
  pub kind : q.kind ≡ kinds.Port
  pub posts : c.posts < 2 ^ 32 - 1
  pub sound : IsSound (next_message tag body c)

-- the message may go to the port, and w is its copy that waits or is decided
pub record IsToPort (q : Ui) (m : Message) (w : Wait) (p : Tables) : Type 0 where
  pub kind : q.kind ≡ kinds.Port
  pub sound : IsSound m
  pub copy : w ≡ post m p.number

-- the message is decided here at once, and there is room for its entries
pub record IsAtOnce (q : Ui) (hop : ℕ) (p : Tables) : Type 0 where
  pub free : IsFree q hop (state p)
  pub spare : 2 ≤ p.journal.spare

-- or it waits behind the others, and all that this takes is there
pub record IsToWait (q : Ui) (wait : Wait) (again : Option Wait) (p : Tables) : Type 0 where
  pub leaving : again ≡ leaving_after (direct q) A.NoPort 0 (Some wait) p
  pub line : 0 < room p.waits (direct q)
  pub few : length (waits_for (direct q) p) < 2 ^ 63
  pub spare : length (waits_for (direct q) p) + 2 ≤ p.journal.spare
  pub room : reports_for (direct q) p + 1 ≤ p.room

abbrev pub HasWay : Way → Ui → Wait → Tables → Type 0
HasWay (Way.AtOnce hop) q wait p = IsAtOnce q hop p
HasWay (Way.Behind again) q wait p = IsToWait q wait again p

-- all that the post of a message to a port takes is there
pub record IsPostReady (ready : ReadyPost) (p : Tables) : Type 0 where
  pub kind : ready.port.kind ≡ kinds.Port
  pub sound : IsSound ready.message
  pub wait : ready.wait ≡ post ready.message p.number
  pub way : HasWay ready.way ready.port ready.wait p

-- the answer that the newest entry gives
abbrev pub last_answer : List Entry → Option Answer
last_answer [] = None
last_answer (e ∷ here) = answer_of e.act
