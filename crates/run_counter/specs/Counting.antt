-- The promise of a counter, said of the merge of all journals. A past has its newest entry first.
-- q is the counter, a port; x and y are the ids of messages, n is the number of a client's call, i and j are indices.
use Rattle.std.specs.Prelude.{ℕ, ◌≡◌, ◌<◌, Bool, false, List, ◌++◌, length, Option, Some, slice_get}
use Rattle.chorus_ui.specs.declared.kind.Kind.TheVariants as kinds
use Rattle.chorus_ui.specs.declared.ui.Ui.{Ui}
use Rattle.chorus_ui.specs.Name.{new_name, same_ui}
use Rattle.chorus_entry.specs.declared.entry.Entry.{Entry}
use Rattle.chorus_entry.specs.declared.id.MsgId.{MsgId}
use Rattle.chorus_entry.specs.declared.act.Act.{Act}
use Rattle.chorus_entry.specs.declared.act.Act.TheVariants.{Take, Done}
use Rattle.chorus_entry.specs.declared.tag.Tag.TheVariants.{Request}
use Rattle.chorus_world.specs.Views.{by, on}
use Rattle.chorus_world.specs.Posts.{tag_of}
use Rattle.chorus_world.specs.Seats.{Call, first_call}
use Rattle.chorus_world.specs.Always.{Always}
use Rattle.chorus_world.specs.AcceptedLaws.{accepted_by, received}
use Rattle.chorus_world.specs.Fates.{MessageFate}
use Rattle.chorus_world.specs.SentLaws.{StandsIn}
use Rattle.law_network.specs.Fates.{HasFate, holdings_told}
use Rattle.chorus_turn.specs.Lists.{StartsWith}

-- the counter of this site: its first port
abbrev pub counter_at : ℕ → Option Ui
counter_at site = new_name site kinds.Port 1

-- the messages that the counter accepted, in order
abbrev pub accepted : Ui → List Entry → List MsgId
accepted q past = accepted_by q past

-- those that it handed out, in order, whoever held it and wherever it was: each counts one
abbrev pub counted : Ui → List Entry → List MsgId
counted q past = received (on q past)

-- the counter's value
abbrev pub value : Ui → List Entry → ℕ
value q past = length (counted q past)

-- the act counts one
abbrev pub counts : Ui → Act → Bool
counts q (Take r i x) = same_ui q r
counts q _ = false

-- the client made its call n to the counter
abbrev pub HasCalled : Ui → ℕ → ℕ → List Entry → Type 0
HasCalled q client n past = (c : Call) × (first_call n (by client past) ≡ Some c) × (c.port ≡ q)

-- x is the client's call n, made for the first time or again
abbrev pub IsOfCall : ℕ → ℕ → List Entry → MsgId → Type 0
IsOfCall client n past x = (x.seat ≡ client) × (back : Ui) × (tag_of x past ≡ Request n back)

-- the call is counted, and just once
pub record IsCountedOnce (q : Ui) (client n : ℕ) (past : List Entry) : Type 0 where
  pub index : ℕ
  pub message : MsgId
  pub stands : slice_get (counted q past) index ≡ Some message
  pub of_call : IsOfCall client n past message
  pub alone : (i : ℕ) (x : MsgId) → slice_get (counted q past) i ≡ Some x → IsOfCall client n past x → i ≡ index

-- What was counted are the first that were accepted, in the same order, and no message is among them twice. Each message
-- that was accepted was counted, or deleted with the counter, or waits once in one record or Transfer of it. Each call is
-- counted at most once, however often it was made again, and the calls of a client in the order of their numbers; a call
-- that is counted was made, to this counter; and a call to it that is done is counted once.
pub record KeepsCount (q : Ui) (past : List Entry) : Type 0 where
  pub in_order : StartsWith (accepted q past) (counted q past)
  pub each : (i j : ℕ) (x : MsgId) → slice_get (counted q past) i ≡ Some x → slice_get (counted q past) j ≡ Some x
      → i ≡ j
  pub kept : (i : ℕ) (x : MsgId) → slice_get (accepted q past) i ≡ Some x
      → (what : MessageFate) × HasFate past (holdings_told past) q i x what
  pub once : (client n i j : ℕ) (x y : MsgId) → slice_get (counted q past) i ≡ Some x
      → slice_get (counted q past) j ≡ Some y → IsOfCall client n past x → IsOfCall client n past y → i ≡ j
  pub rise : (client n m i j : ℕ) (x y : MsgId) → slice_get (counted q past) i ≡ Some x
      → slice_get (counted q past) j ≡ Some y → IsOfCall client n past x → IsOfCall client m past y → i < j → n < m
  pub made : (client n i : ℕ) (x : MsgId) → slice_get (counted q past) i ≡ Some x → IsOfCall client n past x
      → HasCalled q client n past
  pub done : (e : Entry) (n : ℕ) → StandsIn e past → e.act ≡ Done n → HasCalled q e.seat n past
      → IsCountedOnce q e.seat n past

-- It kept its count at each moment of the run; and what was counted at one moment is so at each later one, at the same
-- place.
pub record AlwaysKeepsCount (q : Ui) (past : List Entry) : Type 0 where
  pub keeps : Always (KeepsCount q) past
  pub stays : (newer older : List Entry) → past ≡ newer ++ older → StartsWith (counted q past) (counted q older)
