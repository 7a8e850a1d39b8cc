-- Calls: by what a call is settled, and how often. A past has its newest entry first, e is an entry and past what
-- stands before it.
use Rattle.std.specs.Prelude.{ℕ, ◌≡◌, ◌≢◌, ◌≤◌, ◌⊎◌, ◌==◌, Bool, true, false, not, ◌&&◌, List, ◌∷◌, ◌++◌, count_by}
use Rattle.std.specs.List.{list_all}
use Rattle.chorus_ui.specs.declared.ui.Ui.{Ui}
use Rattle.chorus_entry.specs.declared.entry.Entry.{Entry}
use Rattle.chorus_entry.specs.declared.id.MsgId.{MsgId}
use Rattle.chorus_entry.specs.declared.message.Message.{Message}
use Rattle.chorus_entry.specs.declared.dest.Dest.TheVariants.{Port}
use Rattle.chorus_entry.specs.declared.tag.Tag.{Tag}
use Rattle.chorus_entry.specs.declared.tag.Tag.TheVariants.{Request, Reply}
use Rattle.chorus_entry.specs.declared.act.Act.{Act}
use Rattle.chorus_entry.specs.declared.act.Act.TheVariants.{Post, Take, Done, Late, Cancel}
use Rattle.chorus_world.specs.Views.{at, by, is_by}
use Rattle.chorus_world.specs.Posts.{tag_of}
use Rattle.chorus_world.specs.Commands.{is_reply}
use Rattle.chorus_world.specs.SentLaws.{StandsIn}

-- Settled at most once.

-- the act settles its seat's call of this number: it is the Done or the Cancel of it
abbrev pub is_settling : ℕ → Act → Bool
is_settling n (Done m) = m == n
is_settling n (Cancel m) = m == n
is_settling n _ = false

-- the entry settles the call of this number of the seat s
abbrev pub settles_call : ℕ → ℕ → Entry → Bool
settles_call s n e = is_by s e && is_settling n e.act

-- of each seat and number, at most one entry settles the call
abbrev pub SettlesOnce : List Entry → Type 0
SettlesOnce past = (s n : ℕ) → count_by (settles_call s n) past ≤ 1

-- Only what was called.

-- the seat s posted its request of this number, with `back` as the port for the reply
pub record IsCalled (s number : ℕ) (back : Ui) (past : List Entry) : Type 0 where
  pub entry : Entry
  pub message : Message
  pub port : Ui
  pub stands : StandsIn entry past
  pub posts : entry.act ≡ Post message (Port port)
  pub seat : entry.seat ≡ s
  pub tag : message.tag ≡ Request number back

-- what an entry settles, its seat called before
abbrev pub SettlesWhatWasCalled : List Entry → Entry → Type 0
SettlesWhatWasCalled past e = (n : ℕ) → is_settling n e.act ≡ true → (back : Ui) × IsCalled e.seat n back past

-- By the reply to it.

-- the act leaves its seat with the request that it took last: it takes no other one, and posts no reply
abbrev pub is_request : Tag → Bool
is_request (Request n back) = true
is_request _ = false

abbrev pub leaves_hand : List Entry → Act → Bool
leaves_hand past (Take q n x) = not (is_request (tag_of x past))
leaves_hand past (Post m d) = not (is_reply m.tag)
leaves_hand past _ = true

-- The seat s took the client's request of this number, which names `back` for the reply: it is the last request that s
-- took, and s posted no reply since. The client had called it.
pub record HasTaken (s client number : ℕ) (back : Ui) (past : List Entry) : Type 0 where
  pub entry : Entry
  pub port : Ui
  pub position : ℕ
  pub request : MsgId
  pub newer : List Entry
  pub older : List Entry
  pub stands : by s past ≡ newer ++ entry ∷ older
  pub takes : entry.act ≡ Take port position request
  pub from_client : request.seat ≡ client
  pub tag : tag_of request past ≡ Request number back
  pub called : IsCalled client number back past
  pub last : list_all (λ e. leaves_hand past e.act) newer ≡ true

-- x is the reply to the client's request of this number: a seat that had taken the request posted it to `back`, the
-- port that the request names for it
pub record IsReplyTo (client number : ℕ) (x : MsgId) (back : Ui) (past : List Entry) : Type 0 where
  pub entry : Entry
  pub message : Message
  pub stands : StandsIn entry past
  pub posts : entry.act ≡ Post message (Port back)
  pub id : message.id ≡ x
  pub tag : message.tag ≡ Reply client number
  pub taken : HasTaken entry.seat client number back stands.older

-- the last entry at the place of e is the Take of the message x from the port q, by the seat of e
pub record IsBehindTake (q : Ui) (x : MsgId) (past : List Entry) (e : Entry) : Type 0 where
  pub entry : Entry
  pub position : ℕ
  pub older : List Entry
  pub stands : at e.place past ≡ entry ∷ older
  pub takes : entry.act ≡ Take q position x
  pub seat : entry.seat ≡ e.seat

-- a Done stands directly behind the Take, by its seat, of the reply to its seat's request of this number
pub record IsDone (number : ℕ) (past : List Entry) (e : Entry) : Type 0 where
  pub reply : MsgId
  pub back : Ui
  pub behind : IsBehindTake back reply past e
  pub answers : IsReplyTo e.seat number reply back past

abbrev pub DoneByReply : List Entry → Entry → Type 0
DoneByReply past e = (n : ℕ) → e.act ≡ Done n → IsDone n past e

-- a Late stands directly behind such a Take as well, of the reply to a request of another client, or to one that is
-- settled
pub record IsLate (number : ℕ) (past : List Entry) (e : Entry) : Type 0 where
  pub reply : MsgId
  pub back : Ui
  pub client : ℕ
  pub behind : IsBehindTake back reply past e
  pub answers : IsReplyTo client number reply back past
  pub late : (client ≢ e.seat) ⊎ (count_by (settles_call e.seat number) past ≡ 1)

abbrev pub LateByReply : List Entry → Entry → Type 0
LateByReply past e = (n : ℕ) → e.act ≡ Late n → IsLate n past e
