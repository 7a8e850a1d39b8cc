-- What comes of a race: facts of the end of a history, without the numbers that only tell when: clocks, positions and
-- hops. k is the number of a script, i that of a command, both from 1; ps are places, x is an id, q a port; all and left
-- are the commands of a script, and those that are left of it.
use Rattle.std.specs.Prelude.{ℕ, ◌+◌, ◌-◌, Bool, false, ◌||◌, if◌then◌else◌, List, [], ◌∷◌, ◌++◌, length, map, reverse, Option, Some, None}
use Rattle.std.specs.List.{flat_map, filter_map}
use Rattle.std.specs.Option.{option_map, option_or}
use Rattle.chorus_ui.specs.declared.ui.Ui.{Ui}
use Rattle.chorus_entry.specs.declared.act.Act as acts
use Rattle.chorus_entry.specs.declared.act.Act.TheVariants as variants
use Rattle.chorus_entry.specs.declared.answer.Answer.{Answer}
use Rattle.chorus_entry.specs.declared.answer.Answer.TheVariants as answers
use Rattle.chorus_entry.specs.declared.entry.Entry.{Entry}
use Rattle.chorus_entry.specs.declared.id.MsgId.{MsgId}
use Rattle.chorus_entry.specs.declared.message.Message.{Message}
use Rattle.chorus_entry.specs.declared.record.PortRecord.{PortRecord}
use Rattle.chorus_entry.specs.MsgId.{same_id}
use Rattle.chorus_world.specs.Messages.{verdict}
use Rattle.chorus_world.specs.GroupLaws.{copies_of}
use Rattle.chorus_world.specs.declared.place.Sent.{Sent}
use Rattle.chorus_ports.specs.Table as table
use Rattle.law_machine.specs.PlaceState.{PlaceState}
use Rattle.law_explore.specs.Search.{state_after}
use Rattle.law_explore.specs.declared.moves.Move.{Move}
use Rattle.law_explore.specs.Races.{Race, Order, Position, Told, replaying}

-- One thing that is so at the end, or at a moment.
pub data Fact : Type 0 where
  -- the command of this number of a script is answered by this act
  Answered : (script number : ℕ) (act : acts.Act) → Fact
  -- the message has this verdict; none where it is a post to a group for which members were chosen: its copies have
  -- theirs
  Judged : (message : MsgId) (verdict : Option Answer) → Fact
  -- the message was told `stale` on its way: it came to a place that its port had left, and was tried again
  Stale : (message : MsgId) → Fact
  -- the port is held by this actor, and these messages wait in it
  Held : (port actor : Ui) (waiting : List MsgId) → Fact
  -- Of an end alone: the script did not come to this command, which waits, nor to what stands behind it
  Stuck : (script number : ℕ) → Fact
  -- Of a moment alone: the command is answered by this act, and it took a reply, which did this to the script's call
  Settled : (script number : ℕ) (act settles : acts.Act) → Fact
  -- the message was posted and is not settled
  Open : (message : MsgId) → Fact
  -- the copy goes to this member
  Copied : (message : MsgId) (port : Ui) → Fact
  -- the port has accepted these messages, in this order
  Accepted : (port : Ui) (messages : List MsgId) → Fact
  -- the port is on its way to this actor
  Moving : (port actor : Ui) → Fact
  -- the group has these members, in their order
  Members : (group : Ui) (ports : List Ui) → Fact
  -- the script's call of this number is outstanding
  Calls : (script number : ℕ) → Fact
  -- the script holds this request of that client, and did not reply
  Holds : (script client number : ℕ) → Fact
  -- the script's next command
  Next : (script number : ℕ) → Fact

-- of each script and each command how it was answered; of each message that these posted, and of its copies, the
-- verdict, and that it was told `stale` where it was; each port that is held, in the order in which each place made them;
-- and of each script that was not done to its end the command that never came
abbrev pub Outcome : Type 0
Outcome = List Fact

abbrev pub plain_act : acts.Act → acts.Act
plain_act (variants.Take q position x) = variants.Take q 0 x
plain_act (variants.Depart q to actor hop) = variants.Depart q to actor 0
plain_act act = act

abbrev pub plain_answer : Answer → Answer
plain_answer (answers.Accepted position) = answers.Accepted 0
plain_answer (answers.Early hop) = answers.Early 0
plain_answer (answers.Elsewhere to hop) = answers.Elsewhere 0 0
plain_answer answer = answer

-- Answers.

abbrev pub answers_from : ℕ → ℕ → List Told → List Fact
answers_from k i [] = []
answers_from k i (it ∷ told) = Answered k i (plain_act it.act) ∷ answers_from k (i + 1) told

-- of each script from script k on; each list has the latest first
abbrev pub answer_facts : ℕ → List (List Told) → List Fact
answer_facts k [] = []
answer_facts k (told ∷ rest) = answers_from k 1 (reverse told) ++ answer_facts (k + 1) rest

-- Messages.

abbrev pub post_in : acts.Act → Option MsgId
post_in (variants.Post m d) = Some m.id
post_in act = None

abbrev pub posted : Told → Option MsgId
posted it = post_in it.act

abbrev pub posts_in : List (List Told) → List MsgId
posts_in told = flat_map (λ (xs : List Told). filter_map posted (reverse xs)) told

-- what a message came to, as the places tell; one place alone decides on it
abbrev pub verdict_in : MsgId → List PlaceState → Option Answer
verdict_in x [] = None
verdict_in x (s ∷ ss) = option_or (verdict x s.journal) (verdict_in x ss)

abbrev pub copies_in : MsgId → List PlaceState → List MsgId
copies_in x [] = []
copies_in x (s ∷ ss) = map (λ (m : Sent). m.id) (copies_of x s.journal) ++ copies_in x ss

abbrev pub verdict_fact : List PlaceState → MsgId → Fact
verdict_fact ps x = Judged x (option_map plain_answer (verdict_in x ps))

-- whether it was told `stale`, by any place
abbrev pub is_stale_by : MsgId → acts.Act → Bool
is_stale_by x (variants.Stale y q tried to hop) = same_id y x
is_stale_by x act = false

abbrev pub is_stale_at : MsgId → List Entry → Bool
is_stale_at x [] = false
is_stale_at x (e ∷ past) = is_stale_at x past || is_stale_by x e.act

abbrev pub is_stale_in : MsgId → List PlaceState → Bool
is_stale_in x [] = false
is_stale_in x (s ∷ ss) = is_stale_at x s.journal || is_stale_in x ss

abbrev pub stale_facts : MsgId → Bool → List Fact
stale_facts x is_stale = if is_stale then Stale x ∷ [] else []

abbrev pub facts_about : List PlaceState → MsgId → List Fact
facts_about ps x = verdict_fact ps x ∷ stale_facts x (is_stale_in x ps)

abbrev pub message_facts : List (List Told) → List PlaceState → List Fact
message_facts told ps = flat_map (facts_about ps) (flat_map (λ (x : MsgId). x ∷ copies_in x ps) (posts_in told))

-- Ports: those that a place made, and those that are held anywhere.

abbrev pub made_in : acts.Act → List Ui
made_in (variants.Make q actor capacity) = q ∷ []
made_in act = []

abbrev pub made_by : List Entry → List Ui
made_by [] = []
made_by (e ∷ here) = made_by here ++ made_in e.act

abbrev pub made_at : List PlaceState → List Ui
made_at [] = []
made_at (s ∷ ss) = made_by s.journal ++ made_at ss

abbrev pub held_in : Ui → List PlaceState → Option PortRecord
held_in q [] = None
held_in q (s ∷ ss) = option_or (table.find q s.ports) (held_in q ss)

abbrev pub port_fact : PortRecord → Fact
port_fact q = Held q.ui q.actor (map (λ (m : Message). m.id) q.pending)

abbrev pub port_facts : List PlaceState → List Fact
port_facts ps = filter_map (λ (q : Ui). option_map port_fact (held_in q ps)) (made_at ps)

-- Scripts: this fact of the next command of each that has one left, from script k on.

abbrev pub left_fact : (ℕ → ℕ → Fact) → ℕ → List Order → List Order → List Fact
left_fact fact k all [] = []
left_fact fact k all (o ∷ left) = fact k (length all - length left) ∷ []

abbrev pub left_facts : (ℕ → ℕ → Fact) → ℕ → List (List Order) → List (List Order) → List Fact
left_facts fact k (all ∷ scripts) (left ∷ lefts) =
    left_fact fact k all left ++ left_facts fact (k + 1) scripts lefts
left_facts fact k _ _ = []

-- at an end it is stuck there
abbrev pub stuck_facts : List (List Order) → List (List Order) → List Fact
stuck_facts scripts left = left_facts Stuck 1 scripts left

-- It looks at tables, acts and scripts alone, at no clock and no merge.
abbrev pub outcome_with : List (List Order) → List (List Order) → List (List Told) → List PlaceState → Outcome
outcome_with scripts left told ps =
    answer_facts 1 told ++ message_facts told ps ++ port_facts ps ++ stuck_facts scripts left

abbrev pub outcome_of : Race → Position → Outcome
outcome_of r s = outcome_with r.scripts s.left s.told s.net.places

-- what the moves come to
abbrev pub outcome_after : Race → List Move → Outcome
outcome_after r ms = outcome_of r (state_after (replaying r) ms)
