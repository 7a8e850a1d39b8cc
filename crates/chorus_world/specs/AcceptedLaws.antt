-- The laws of what ports accept. They speak of every legal past, and so of each past on the way to it.
use Rattle.std.specs.Prelude.{ℕ, ◌≡◌, ◌≤◌, ◌+◌, ◌-◌, true, List, [], ◌∷◌, ◌++◌, length, take, Option, Some, None, slice_get}
use Rattle.chorus_ui.specs.declared.ui.Ui.{Ui}
use Rattle.chorus_ui.specs.declared.layout.Layout.{Layout}
use Rattle.chorus_ui.specs.Layout.{IsLayout}
use Rattle.chorus_ui.specs.declared.limits.TheConstants.{PENDING_LIMIT}
use Rattle.chorus_entry.specs.declared.entry.Entry.{Entry}
use Rattle.chorus_entry.specs.declared.id.MsgId.{MsgId}
use Rattle.chorus_entry.specs.declared.answer.Answer.{Answer}
use Rattle.chorus_entry.specs.declared.act.Act.{Act}
use Rattle.chorus_entry.specs.declared.act.Act.TheVariants.{Take, Delete}
use Rattle.chorus_world.specs.Messages.{verdict, verdict_by}
use Rattle.chorus_world.specs.Views.{on}
use Rattle.chorus_world.specs.Ports.{PortState, fate}
use Rattle.chorus_world.specs.Fates.{MessageFate, fate_at}
use Rattle.chorus_world.specs.Fates.MessageFate.{Received, Discarded}
use Rattle.chorus_world.specs.Steps.{is_legal}

abbrev pub accepted_from : Option PortState → List MsgId
accepted_from None = []
accepted_from (Some f) = f.accepted

-- the ids that the port accepted, in order
abbrev pub accepted_by : Ui → List Entry → List MsgId
accepted_by q past = accepted_from (fate (on q past))

abbrev pub taken_from : Option PortState → ℕ
taken_from None = 0
taken_from (Some f) = f.taken

-- how many of them were received
abbrev pub taken_by : Ui → List Entry → ℕ
taken_by q past = taken_from (fate (on q past))

-- the ids of the Take entries, in order
abbrev pub received_after : Act → List MsgId → List MsgId
received_after (Take q n x) xs = xs ++ x ∷ []
received_after _ xs = xs

abbrev pub received : List Entry → List MsgId
received [] = []
received (e ∷ port) = received_after e.act (received port)

-- the ids of the Delete entry, where there is one
abbrev pub discarded_after : Act → Option (List MsgId) → Option (List MsgId)
discarded_after (Delete q xs) o = Some xs
discarded_after _ o = o

abbrev pub discarded : List Entry → Option (List MsgId)
discarded [] = None
discarded (e ∷ port) = discarded_after e.act (discarded port)

-- The message at this position of this port has this fate, and stands nowhere else.
pub record HasOneFate (past : List Entry) (q : Ui) (i : ℕ) (x : MsgId) (what : MessageFate) : Type 0 where
  pub state : PortState
  pub made : fate (on q past) ≡ Some state
  pub is : fate_at i state ≡ what
  pub alone : (r : Ui) (j : ℕ) → slice_get (accepted_by r past) j ≡ Some x → (r ≡ q) × (j ≡ i)

-- each accepted message has one fate, and stands at one position of one port
abbrev pub KeepsEachMessage : List Entry → Type 0
KeepsEachMessage past =
    (q : Ui) (i : ℕ) (x : MsgId) → slice_get (accepted_by q past) i ≡ Some x →
    (what : MessageFate) × HasOneFate past q i x what

-- what a port accepted stays where it is, whatever comes after: only more is put behind it
abbrev pub AcceptedGrows : Type 0
AcceptedGrows =
    (l : Layout) (newer past : List Entry) (q : Ui) → IsLayout l → is_legal l (newer ++ past) ≡ true →
    (more : List MsgId) × (accepted_by q (newer ++ past) ≡ accepted_by q past ++ more)

-- each port gives out what it accepted, in order, and nothing else: the ids of its Take entries are the first that it
-- accepted
abbrev pub ReceivesInOrder : List Entry → Type 0
ReceivesInOrder past = (q : Ui) → received (on q past) ≡ take (taken_by q past) (accepted_by q past)

-- no more was received than was accepted, no more messages wait in a port than it has room for, and that is room for 1
-- to 64
abbrev pub KeepsToCapacity : List Entry → Type 0
KeepsToCapacity past =
    (q : Ui) (f : PortState) → fate (on q past) ≡ Some f →
    (f.taken ≤ length f.accepted) × (length f.accepted ≤ f.taken + f.capacity) × (1 ≤ f.capacity) ×
    (f.capacity ≤ PENDING_LIMIT)

-- the ids of a port's Delete entry are all that it accepted and that was not received
abbrev pub DiscardsTheRest : List Entry → Type 0
DiscardsTheRest past =
    (q : Ui) (xs : List MsgId) → discarded (on q past) ≡ Some xs → accepted_by q past ≡ received (on q past) ++ xs

-- the ids of a port's Take entries are those whose fate is that they were received
abbrev pub ReceivedByFate : List Entry → Type 0
ReceivedByFate past =
    (q : Ui) (i : ℕ) (x : MsgId) (f : PortState) → fate (on q past) ≡ Some f → slice_get f.accepted i ≡ Some x →
    (fate_at i f ≡ Received → slice_get (received (on q past)) i ≡ Some x)
    × (slice_get (received (on q past)) i ≡ Some x → fate_at i f ≡ Received)

-- and those of its Delete entry are those whose fate is that they were discarded
abbrev pub DiscardedByFate : List Entry → Type 0
DiscardedByFate past =
    (q : Ui) (i : ℕ) (x : MsgId) (f : PortState) → fate (on q past) ≡ Some f → slice_get f.accepted i ≡ Some x →
    (fate_at i f ≡ Discarded → (xs : List MsgId) × (discarded (on q past) ≡ Some xs) ×
    (slice_get xs (i - f.taken) ≡ Some x))
    × ((xs : List MsgId) → discarded (on q past) ≡ Some xs → f.taken ≤ i → fate_at i f ≡ Discarded)

-- after its Delete entry nothing becomes of a port any more
abbrev pub EndsWithDelete : Type 0
EndsWithDelete =
    (l : Layout) (newer past : List Entry) (q : Ui) (xs : List MsgId) → IsLayout l → is_legal l (newer ++ past) ≡ true →
    discarded (on q past) ≡ Some xs → on q (newer ++ past) ≡ on q past

-- a verdict of a message is the first verdict of it
abbrev pub HasOneVerdict : Type 0
HasOneVerdict =
    (l : Layout) (past : List Entry) (e : Entry) (x : MsgId) (a : Answer) → is_legal l (e ∷ past) ≡ true →
    verdict_by x e.act ≡ Some a → verdict x past ≡ None
