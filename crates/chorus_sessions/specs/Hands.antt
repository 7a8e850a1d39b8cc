-- What sessions were handed out, that none of it is lost or stands twice, and what they delivered.
-- l is the layout of a nucleus, v what a pass knows, mine what it made, past is the merge of the journals, its newest
-- entry first, q a port, n a position, x a message's id.
use Rattle.std.specs.Prelude.{ℕ, ⊤, ◌≡◌, ◌<◌, ◌≤◌, Bool, true, false, List, [], ◌∷◌, map, length, Option, Some, slice_get}
use Rattle.std.specs.List.{All}
use Rattle.chorus_ui.specs.declared.ui.Ui.{Ui}
use Rattle.chorus_ui.specs.declared.layout.Layout.{Layout}
use Rattle.chorus_ui.specs.Layout.{has_place}
use Rattle.chorus_entry.specs.declared.entry.Entry.{Entry}
use Rattle.chorus_entry.specs.declared.act.Act.{Act}
use Rattle.chorus_entry.specs.declared.answer.Answer.{Answer}
use Rattle.chorus_entry.specs.declared.dest.Dest.{Dest}
use Rattle.chorus_entry.specs.declared.id.MsgId.{MsgId}
use Rattle.chorus_calls.specs.declared.client.Settle.{Settle}
use Rattle.chorus_world.specs.AcceptedLaws.{accepted_by}
use Rattle.chorus_world.specs.SentLaws.{StandsIn}
use Rattle.law_machine.specs.declared.reply.Reply.{Reply}
use Rattle.law_replies.specs.AsPosted.{IsAsPosted}
use Rattle.law_replies.specs.Outcomes.{TellsEnd}
use Rattle.law_closing.specs.Places.{PlaceNote}
use Rattle.law_closing.specs.Behind.{StandsBefore}
use Rattle.chorus_turn.specs.declared.knowledge.Placed.{Placed}
use Rattle.chorus_turn.specs.declared.knowledge.Note.{Note}
use Rattle.chorus_turn.specs.declared.knowledge.Knowledge.{Knowledge}
use Rattle.chorus_turn.specs.Journals.{entries_of}
use Rattle.chorus_turn.specs.Knowing.{seen_at}
use Rattle.chorus_nucleus.specs.Taking.{HasOrigin}
use Rattle.chorus_sessions.specs.declared.hand.Hand.{Hand}
use Rattle.chorus_sessions.specs.declared.hand.PortMessage.{PortMessage}

-- At the end.

-- the entry tells that the seat was handed out the message
pub record HandsOut (seat : ℕ) (got : PortMessage) (e : Entry) : Type 0 where
  pub act : e.act ≡ Act.Take got.port got.position got.message.id
  pub seat_is : e.seat ≡ seat

-- An entry of the run tells so. The message stands at its position among those that its port accepted, and is the one
-- that was posted: it has that tag and that body.
pub record WasHandedOut (past : List Entry) (seat : ℕ) (got : PortMessage) : Type 0 where
  pub entry : Entry
  pub stands : StandsIn entry past
  pub tells : HandsOut seat got entry
  pub position : slice_get (accepted_by got.port past) got.position ≡ Some got.message.id
  pub posted : IsAsPosted got.message past

-- an entry of the run tells that the seat was handed out m, and a later one that it was handed out k
pub record WereHandedOut (past : List Entry) (seat : ℕ) (m k : PortMessage) : Type 0 where
  pub early : Entry
  pub late : Entry
  pub order : StandsBefore late early past
  pub first : HandsOut seat m early
  pub second : HandsOut seat k late

-- one of these messages has this port, position and id
pub record IsInHand (q : Ui) (n : ℕ) (x : MsgId) (taken : List PortMessage) : Type 0 where
  pub index : ℕ
  pub got : PortMessage
  pub stands : slice_get taken index ≡ Some got
  pub port : got.port ≡ q
  pub position : got.position ≡ n
  pub id : got.message.id ≡ x

abbrev pub IsInSomeHand : Ui → ℕ → MsgId → List Hand → Type 0
IsInSomeHand q n x hands =
    (a : ℕ) × (hand : Hand) × (slice_get hands a ≡ Some hand) × IsInHand q n x hand.taken.items

-- Each message in a hand was handed out to its seat, as it was posted, and they stand in the order in which they were;
-- none is there twice, and none is in another hand; and each message that was handed out, by any port, is in a hand.
pub record AreHandedOut (past : List Entry) (hands : List Hand) : Type 0 where
  pub each : (a i : ℕ) (hand : Hand) (got : PortMessage) → slice_get hands a ≡ Some hand
      → slice_get hand.taken.items i ≡ Some got → WasHandedOut past hand.seat got
  pub in_order : (a i j : ℕ) (hand : Hand) (m k : PortMessage) → slice_get hands a ≡ Some hand
      → slice_get hand.taken.items i ≡ Some m → slice_get hand.taken.items j ≡ Some k → i < j
      → WereHandedOut past hand.seat m k
  pub once : (a i j : ℕ) (hand : Hand) (m k : PortMessage) → slice_get hands a ≡ Some hand
      → slice_get hand.taken.items i ≡ Some m → slice_get hand.taken.items j ≡ Some k → m.message.id ≡ k.message.id
      → i ≡ j
  pub alone : (a b i j : ℕ) (one other : Hand) (m k : PortMessage) → slice_get hands a ≡ Some one
      → slice_get hands b ≡ Some other → slice_get one.taken.items i ≡ Some m
      → slice_get other.taken.items j ≡ Some k → m.message.id ≡ k.message.id → a ≡ b
  pub none_lost : (e : Entry) (q : Ui) (n : ℕ) (x : MsgId) → StandsIn e past → e.act ≡ Act.Take q n x
      → IsInSomeHand q n x hands

-- An entry of the run posted the message to the port, by this seat, with this tag and body; and it stands at its
-- position among those that the port accepted.
pub record WasDelivered (past : List Entry) (seat : ℕ) (sent : PortMessage) : Type 0 where
  pub entry : Entry
  pub stands : StandsIn entry past
  pub posts : entry.act ≡ Act.Post sent.message (Dest.Port sent.port)
  pub seat_is : entry.seat ≡ seat
  pub position : slice_get (accepted_by sent.port past) sent.position ≡ Some sent.message.id

-- so it is with each message that one of the sessions delivered
abbrev pub WereDelivered : List Entry → List Hand → Type 0
WereDelivered past hands =
    (a i : ℕ) (hand : Hand) (sent : PortMessage) → slice_get hands a ≡ Some hand →
    slice_get hand.delivered.items i ≡ Some sent → WasDelivered past hand.seat sent

-- Meanwhile.

abbrev pub entries_made : List (Placed PlaceNote) → List Entry
entries_made mine = map (λ (m : Placed PlaceNote). m.remarked.entry) mine

-- the act hands a message out
abbrev pub hands_out : Act → Bool
hands_out (Act.Take q n x) = true
hands_out _ = false

abbrev pub HandNothingOut : List (Placed PlaceNote) → Type 0
HandNothingOut mine = All (λ (m : Placed PlaceNote). hands_out m.remarked.entry.act ≡ false) mine

-- The pass made this entry, up to this clock, and it handed out the message, as the answer of a take that the pass has
-- seen.
pub record IsHandedOutBy (l : Layout) (v : Knowledge PlaceNote) (mine : List (Placed PlaceNote)) (last : ℕ)
    (got : PortMessage) (e : Entry) : Type 0 where
  pub stands : StandsIn e (entries_made mine)
  pub act : e.act ≡ Act.Take got.port got.position got.message.id
  pub upto : e.clock ≤ last
  pub settled : Option Settle
  pub origin : HasOrigin l got.port (Reply.Taken got.position got.message settled) v

-- each of the messages was handed out by an entry of its own, and no other message was
pub record Holds (l : Layout) (v : Knowledge PlaceNote) (mine : List (Placed PlaceNote)) (last : ℕ)
    (taken : List PortMessage) : Type 0 where
  pub entry : ℕ → Entry
  pub by : (i : ℕ) (got : PortMessage) → slice_get taken i ≡ Some got → IsHandedOutBy l v mine last got (entry i)
  pub apart : (i j : ℕ) → i < j → j < length taken → (entry i).clock < (entry j).clock
  pub all : (e : Entry) (q : Ui) (n : ℕ) (x : MsgId) → StandsIn e (entries_made mine) → e.act ≡ Act.Take q n x
      → IsInHand q n x taken

-- the pass has seen an entry, at a place of the layout, that tells that this became of x
pub record HasHeard (l : Layout) (v : Knowledge PlaceNote) (x : MsgId) (answer : Answer) : Type 0 where
  pub place : ℕ
  pub there : has_place l place ≡ true
  pub entry : Entry
  pub seen : StandsIn entry (entries_of (seen_at place v))
  pub tells : TellsEnd x answer entry.act

-- it made the entry that posted the message to the port, and has heard that it was accepted at this position
pub record IsDelivered (l : Layout) (v : Knowledge PlaceNote) (mine : List (Placed PlaceNote))
    (sent : PortMessage) : Type 0 where
  pub entry : Entry
  pub stands : StandsIn entry (entries_made mine)
  pub posts : entry.act ≡ Act.Post sent.message (Dest.Port sent.port)
  pub heard : HasHeard l v sent.message.id (Answer.Accepted sent.position)

abbrev pub AreDelivered : Layout → Knowledge PlaceNote → List (Placed PlaceNote) → List PortMessage → Type 0
AreDelivered l v mine sent = All (IsDelivered l v mine) sent

-- the note is of the pass whose hand it is
pub record IsKept (l : Layout) (v : Knowledge PlaceNote) (note : Note PlaceNote) (hand : Hand) : Type 0 where
  pub seat_is : note.seat ≡ hand.seat
  pub last : ℕ
  pub holds : Holds l v note.mine last hand.taken.items
  pub delivered : AreDelivered l v note.mine hand.delivered.items

-- the notes are of the passes whose hands these are, in the same order
abbrev pub AreKept : Layout → Knowledge PlaceNote → List (Note PlaceNote) → List Hand → Type 0
AreKept l v [] [] = ⊤
AreKept l v (note ∷ notes) (hand ∷ hands) = IsKept l v note hand × AreKept l v notes hands
AreKept l v _ _ = ⊥
