-- What became of a message, as the place tells where it was posted; and that it is so.
-- x is the id of the message, a an answer; `here` are the entries that the place has, past are those of all places, the
-- newest first.
use Rattle.std.specs.Prelude.{ℕ, ◌≡◌, ◌≤◌, ◌⊎◌, ◌↔◌, true, List, length}
use Rattle.chorus_ui.specs.declared.layout.Layout.{Layout}
use Rattle.chorus_entry.specs.declared.entry.Entry.{Entry}
use Rattle.chorus_entry.specs.declared.id.MsgId.{MsgId}
use Rattle.chorus_entry.specs.declared.dest.Dest.{Dest}
use Rattle.chorus_entry.specs.declared.message.Message.{Message}
use Rattle.chorus_entry.specs.declared.answer.Answer.{Answer}
use Rattle.chorus_entry.specs.declared.answer.Answer.TheVariants as A
use Rattle.chorus_entry.specs.declared.act.Act.{Act}
use Rattle.chorus_entry.specs.Answer.{is_final}
use Rattle.chorus_world.specs.Views.{at}
use Rattle.chorus_world.specs.Posts.{source}
use Rattle.chorus_world.specs.Steps.{is_legal}
use Rattle.law_machine.specs.declared.outcome.Outcome.{Outcome}
use Rattle.law_machine.specs.Outcomes.{outcome}
use Rattle.law_network.specs.Network.{place}
use Rattle.law_network.specs.Left.{merged_past}
use Rattle.law_network.specs.Schedules.{OfSchedules}
use Rattle.law_replies.specs.Replies.{Says}

-- What became of it.

-- the act is the verdict a on x, or chooses so many members for it
abbrev pub Decides : MsgId → Answer → Act → Type 0
Decides x a (Act.Accept y q position) = (y ≡ x) × (a ≡ A.Accepted position)
Decides x a (Act.Full y q len) = (y ≡ x) × (a ≡ A.Full len)
Decides x a (Act.Early y q hop) = (y ≡ x) × (a ≡ A.Early hop)
Decides x a (Act.NoPort y q) = (y ≡ x) × (a ≡ A.NoPort)
Decides x a (Act.Already y q) = (y ≡ x) × (a ≡ A.Already)
Decides x a (Act.ClientsFull y q) = (y ≡ x) × (a ≡ A.ClientsFull)
Decides x a (Act.Elsewhere y q to hop) = (y ≡ x) × (a ≡ A.Elsewhere to hop)
Decides x a (Act.Gone y q) = (y ≡ x) × (a ≡ A.Gone)
Decides x a (Act.NoMember y g) = (y ≡ x) × (a ≡ A.NoMember)
Decides x a (Act.Choose y g qs) = (y ≡ x) × (a ≡ A.Chosen (length qs))
Decides x a _ = ⊥

-- a place decided so
abbrev pub Became : MsgId → Answer → List Entry → Type 0
Became x a past = (act : Act) × (Says past act × Decides x a act)

-- What the place knows.

-- the act tells that a became of x: it decides so itself, or was told or heard so; a Stale is no end
abbrev pub TellsEnd : MsgId → Answer → Act → Type 0
TellsEnd x a (Act.Told y b) = (y ≡ x) × ((b ≡ a) × (is_final a ≡ true))
TellsEnd x a (Act.Heard y b) = (y ≡ x) × (b ≡ a)
TellsEnd x a act = Decides x a act

abbrev pub IsTold : MsgId → Answer → List Entry → Type 0
IsTold x a here = (act : Act) × (Says here act × TellsEnd x a act)

-- x was posted here, or the post of which it is a copy
pub record IsPostedHere (x : MsgId) (here : List Entry) : Type 0 where
  pub message : Message
  pub dest : Dest
  pub says : Says here (Act.Post message dest)
  pub id : message.id ≡ source x

-- x is a post of this place, or one of so many copies as the place was told of
abbrev pub IsKnown : MsgId → List Entry → Type 0
IsKnown x here =
    IsPostedHere x here × ((x.copy ≡ 0) ⊎ ((count : ℕ) × (IsTold (source x) (A.Chosen count) here × (x.copy ≤ count))))

-- The outcome is an answer exactly where the place was told it of a message that it knows; pending exactly where it was
-- told none; and unknown exactly where it does not know the message. What it was told did become of the message, and
-- one thing only.
pub record OutcomeIsTrue (x : MsgId) (here past : List Entry) : Type 0 where
  pub answer : (a : Answer) → (outcome x here ≡ Outcome.Answer a) ↔ (IsKnown x here × IsTold x a here)
  pub pending : (outcome x here ≡ Outcome.Pending) ↔ (IsKnown x here × ((a : Answer) → IsTold x a here → ⊥))
  pub unknown : (outcome x here ≡ Outcome.Unknown) ↔ (IsKnown x here → ⊥)
  pub became : (a : Answer) → IsTold x a here → Became x a past
  pub once : (a b : Answer) → Became x a past → Became x b past → a ≡ b

-- so it is at each place of a legal list, for all that the place has there
abbrev pub LegalOutcomes : Type 0
LegalOutcomes =
    (l : Layout) (past : List Entry) (p : ℕ) (x : MsgId) → is_legal l past ≡ true → OutcomeIsTrue x (at p past) past

-- and at each place of each schedule, for the merge of the journals
abbrev pub SchedulesOutcomes : Type 0
SchedulesOutcomes = OfSchedules (λ l es n. (p : ℕ) (x : MsgId) → OutcomeIsTrue x (place p n).journal (merged_past n))
