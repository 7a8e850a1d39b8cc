-- The other numbers of a summary, each as the world has it. l is a layout, q a port, x the id of a message, s a seat; a
-- past has its newest entry first, a summary is of the entries in order.
use Rattle.std.specs.Prelude.{ℕ, zero, suc, ◌≡◌, ◌+◌, ◌-◌, ◌==◌, nat_lt, Bool, true, false, not, ◌&&◌, if◌then◌else◌, List, [], ◌∷◌, ◌++◌, length, reverse, Option, Some, None, is_none, sum_by, count_by}
use Rattle.std.specs.List.{list_any}
use Rattle.chorus_ui.specs.declared.ui.Ui.{Ui}
use Rattle.chorus_ui.specs.declared.layout.Layout.{Layout}
use Rattle.chorus_ui.specs.Layout.{IsLayout}
use Rattle.chorus_ui.specs.Name.{same_ui}
use Rattle.chorus_entry.specs.declared.answer.Answer.{Answer}
use Rattle.chorus_entry.specs.declared.answer.Answer.TheVariants.{Accepted}
use Rattle.chorus_entry.specs.declared.entry.Entry.{Entry}
use Rattle.chorus_entry.specs.declared.id.MsgId.{MsgId}
use Rattle.chorus_entry.specs.Act.{is_decision, message_of}
use Rattle.chorus_entry.specs.MsgId.{same_id}
use Rattle.chorus_world.specs.declared.progress.Progress.{Progress}
use Rattle.chorus_world.specs.declared.progress.Progress.TheVariants.{Tried}
use Rattle.chorus_world.specs.Views.{at, by, about, on}
use Rattle.chorus_world.specs.Ports.{PortState, fate, is_made, is_ended, is_held_at}
use Rattle.chorus_world.specs.Ports as ports
use Rattle.chorus_world.specs.Fates.{MessageFate, Received, Queued, UnderWay, Discarded, fate_at}
use Rattle.chorus_world.specs.Posts.{site_asked}
use Rattle.chorus_world.specs.Messages.{progress, verdict}
use Rattle.chorus_world.specs.Places.{located}
use Rattle.chorus_world.specs.Seats.{posts}
use Rattle.chorus_world.specs.Steps.{is_legal}
use Rattle.chorus_world.specs.AcceptedLaws.{accepted_by, taken_by}
use Rattle.chorus_show.specs.declared.queues.Spot.TheVariants.{Held, Moving, Ended}
use Rattle.chorus_show.specs.Summary.{is_post, is_accept, is_take, is_stale, is_depart, is_refusal, count, discarded, ports_at, waiting_at}

-- Sums over the ports.

-- the ports that were made, wherever they are
abbrev pub made_ports : List Entry → List Ui
made_ports entries = ports_at Held entries ++ ports_at Moving entries ++ ports_at Ended entries

-- how many messages waited in a port that ended, when it did
abbrev pub left_in : Option PortState → ℕ
left_in None = 0
left_in (Some f) = if is_ended f.spot then ports.waiting f else 0

-- how many hops a port made
abbrev pub hops_of : Option PortState → ℕ
hops_of None = 0
hops_of (Some f) = length f.path - 1

-- What was accepted, taken and discarded, and the departs, are the sums of what the world has of each port; and each
-- port that was made is counted once.
pub record SumsOfPorts (past : List Entry) : Type 0 where
  pub once : (q : Ui) → count_by (same_ui q) (made_ports (reverse past)) ≡ (if is_made (fate (on q past)) then 1 else 0)
  pub accepted : count is_accept (reverse past) ≡ sum_by (λ q. length (accepted_by q past)) (made_ports (reverse past))
  pub taken : count is_take (reverse past) ≡ sum_by (λ q. taken_by q past) (made_ports (reverse past))
  pub discarded : discarded (reverse past) ≡ sum_by (λ q. left_in (fate (on q past))) (made_ports (reverse past))
  pub departs : count is_depart (reverse past) ≡ sum_by (λ q. hops_of (fate (on q past))) (made_ports (reverse past))

-- Seats.

-- the seats of the entries, each once
abbrev pub has_seat : ℕ → List ℕ → Bool
has_seat s ss = list_any (λ k. k == s) ss

abbrev pub seats_of : List Entry → List ℕ
seats_of [] = []
seats_of (e ∷ past) = if has_seat e.seat (seats_of past) then seats_of past else e.seat ∷ seats_of past

-- what was posted is the sum of what each seat posted
abbrev pub SumsOfSeats : List Entry → Type 0
SumsOfSeats past = count is_post (reverse past) ≡ sum_by (λ s. posts (by s past)) (seats_of past)

-- Messages.

-- the messages that the entries are about, each once
abbrev pub has_message : MsgId → List MsgId → Bool
has_message x xs = list_any (λ y. same_id y x) xs

abbrev pub with_message : Option MsgId → List MsgId → List MsgId
with_message None xs = xs
with_message (Some x) xs = if has_message x xs then xs else x ∷ xs

abbrev pub messages_of : List Entry → List MsgId
messages_of [] = []
messages_of (e ∷ past) = with_message (message_of e.act) (messages_of past)

-- the verdict of a message, where it has one, is that it was not accepted
abbrev pub is_refused : Option Answer → Bool
is_refused None = false
is_refused (Some (Accepted n)) = false
is_refused (Some a) = true

-- as many messages are refused as have such a verdict
abbrev pub CountsTheRefused : List Entry → Type 0
CountsTheRefused past = count is_refusal (reverse past) ≡ count_by (λ x. is_refused (verdict x past)) (messages_of past)

-- Late tries.

-- x, which asks for no site, stands tried at the place p, which does not hold its port, and locates it at another place
-- by a later hop
abbrev pub is_too_late : Layout → List Entry → ℕ → MsgId → Progress → Bool
is_too_late l past p x (Tried from q to hop) =
    (to == p) && not (is_held_at p (fate (on q past))) && nat_lt hop (located l q (at p past)).hop
    && not ((located l q (at p past)).to == p) && is_none (site_asked x past)
is_too_late l past p x _ = false

abbrev pub decides_late : Layout → List Entry → ℕ → Option MsgId → Bool
decides_late l past p None = false
decides_late l past p (Some x) = is_too_late l past p x (progress (about x past))

-- how many decisions were made on such messages
abbrev pub late_decisions : Layout → List Entry → ℕ
late_decisions l [] = 0
late_decisions l (e ∷ past) =
    (if is_decision e.act && decides_late l past e.place (message_of e.act) then 1 else 0) + late_decisions l past

abbrev pub CountsTheLate : Layout → List Entry → Type 0
CountsTheLate l past = count is_stale (reverse past) ≡ late_decisions l past

-- Fates.

abbrev pub fate_number : MessageFate → ℕ
fate_number Received = 0
fate_number Queued = 1
fate_number UnderWay = 2
fate_number Discarded = 3

-- the message that a port accepted at position i has this fate
abbrev pub has_fate : MessageFate → ℕ → PortState → Bool
has_fate what i f = fate_number (fate_at i f) == fate_number what

-- how many of the first n that it accepted have it, and how many of all
abbrev pub with_fate : MessageFate → PortState → ℕ → ℕ
with_fate what f zero = 0
with_fate what f (suc i) = with_fate what f i + (if has_fate what i f then 1 else 0)

abbrev pub fates_in : MessageFate → Option PortState → ℕ
fates_in what None = 0
fates_in what (Some f) = with_fate what f (length f.accepted)

-- over all ports
abbrev pub fates : MessageFate → List Entry → ℕ
fates what past = sum_by (λ q. fates_in what (fate (on q past))) (made_ports (reverse past))

-- Taken, queued, moving and discarded are as many messages as have this fate; and each that was accepted is in one of
-- these numbers.
pub record SumsOfFates (past : List Entry) : Type 0 where
  pub whole : count is_accept (reverse past)
      ≡ count is_take (reverse past) + waiting_at Held (reverse past) + waiting_at Moving (reverse past)
      + discarded (reverse past)
  pub taken : count is_take (reverse past) ≡ fates Received past
  pub queued : waiting_at Held (reverse past) ≡ fates Queued past
  pub moving : waiting_at Moving (reverse past) ≡ fates UnderWay past
  pub discarded : discarded (reverse past) ≡ fates Discarded past

-- All of these, of each legal list.
pub record CountsTheRest (l : Layout) (past : List Entry) : Type 0 where
  pub ports : SumsOfPorts past
  pub fates : SumsOfFates past
  pub posted : SumsOfSeats past
  pub refused : CountsTheRefused past
  pub stale : CountsTheLate l past

abbrev pub SummariesCountTheRest : Type 0
SummariesCountTheRest = (l : Layout) (past : List Entry) → IsLayout l → is_legal l past ≡ true → CountsTheRest l past
