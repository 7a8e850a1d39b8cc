-- What is so of one message in every legal past: where it was sent, and how far it is.
use Rattle.std.proofs.Common.{ℕ, ◌≡◌, ◌<◌, true, false, List, [], Some, None, refl, sym, ◌∙◌, ap}
use Rattle.std.proofs.lemmas.Bool.{false≢true}
use Rattle.chorus_ui.specs.declared.ui.Ui.{Ui}
use Rattle.chorus_entry.specs.declared.entry.Entry.{Entry}
use Rattle.chorus_entry.specs.declared.id.MsgId.{MsgId}
use Rattle.chorus_entry.specs.declared.dest.Dest.{Dest}
use Rattle.chorus_entry.specs.Answer.{is_final}
use Rattle.chorus_entry.specs.Dest.{group_in}
use Rattle.chorus_world.specs.declared.place.Sent.{Sent}
use Rattle.chorus_world.specs.declared.progress.Progress.{Progress}
use Rattle.chorus_world.specs.declared.progress.Progress.TheVariants.{Idle, Asked, Tried, Decided, Settled, Reported}
use Rattle.chorus_world.specs.Views.{at, by, about}
use Rattle.chorus_world.specs.Messages.{progress, verdict}
use Rattle.chorus_world.specs.Places.{is_settled, is_tried}
use Rattle.chorus_world.specs.Posts.{Posted, post_of, source}
use Rattle.chorus_world.specs.Groups.{is_chosen}
use Rattle.chorus_world.specs.Seats.{posts}
use Rattle.chorus_world.proofs.Ports.LineLemmas.{none_some}
use Rattle.chorus_world.proofs.Messages.SendingLemmas.{sent_as, IsAhead, FirstHere}

-- the place `from` sent it to the port and tried it
pub record IsUnderWay (x : MsgId) (past : List Entry) (from : ℕ) (q : Ui) : Type 0 where
  pub message : Sent
  pub is : sent_as x from past ≡ Some message
  pub port : message.port ≡ q
  pub ahead : IsAhead x from past message
  pub tried : is_tried x (at from past) ≡ true

-- there is no verdict of it, and no member was chosen for it
pub record IsOpen (x : MsgId) (past : List Entry) : Type 0 where
  pub verdict : verdict x (about x past) ≡ None
  pub chosen : is_chosen x (about x past) ≡ false

-- it was posted to a group, from this place
pub record IsAsked (x : MsgId) (past : List Entry) (from : ℕ) (d : Dest) : Type 0 where
  pub copy : x.copy ≡ 0
  pub unsent : (p : ℕ) → sent_as x p past ≡ None
  pub post : Posted
  pub posted : post_of x past ≡ Some post
  pub place : post.place ≡ from
  pub dest : post.dest ≡ d

-- each place that sent it has settled it
abbrev pub IsOver : MsgId → List Entry → Type 0
IsOver x past =
    (p : ℕ) (m : Sent) → sent_as x p past ≡ Some m → (is_settled x (at p past) ≡ true) × IsAhead x p past m

-- what is so of a message at each stage
abbrev pub Stage : MsgId → List Entry → Progress → Type 0
Stage x past Idle = IsOpen x past
Stage x past (Asked from d) = IsOpen x past × IsAsked x past from d
Stage x past (Tried from q to hop) = IsOpen x past × IsUnderWay x past from q × (is_settled x (at from past) ≡ false)
Stage x past (Decided from b q a) =
    (is_final a ≡ false → verdict x (about x past) ≡ None) × (is_chosen x (about x past) ≡ false) × IsUnderWay x past from q
Stage x past (Settled a) = IsOver x past
Stage x past Reported = IsOver x past

-- nothing is known of the message
pub record IsUnknown (x : MsgId) (past : List Entry) : Type 0 where
  pub about : about x past ≡ []
  pub unsent : (p : ℕ) → sent_as x p past ≡ None

-- the post that the message is, or is a copy of
pub record HasOrigin (x : MsgId) (past : List Entry) (p : ℕ) (m : Sent) : Type 0 where
  pub post : Posted
  pub posted : post_of x past ≡ Some post
  pub route : m.route ≡ group_in post.dest
  pub place : m.route ≡ None → post.place ≡ p

pub record MessageFacts (x : MsgId) (past : List Entry) : Type 0 where
  -- one place sends it
  pub home : (p r : ℕ) (m n : Sent) → sent_as x p past ≡ Some m → sent_as x r past ≡ Some n → p ≡ r
  pub origin : (p : ℕ) (m : Sent) → sent_as x p past ≡ Some m → HasOrigin x past p m
  -- the seat's next posts are not known yet
  pub fresh : posts (by x.seat past) < x.number → IsUnknown x past
  pub unposted : posts (by x.seat past) < x.number → post_of x past ≡ None
  -- nor are the copies of a post for which no member was chosen
  pub uncopied : (x.copy ≡ 0 → ⊥) → is_chosen (source x) (about (source x) past) ≡ false → IsUnknown x past
  pub stage : Stage x past (progress (about x past))

-- what waits first at a place is idle
idle_case : (x : MsgId) (q : Ui) (p : ℕ) (past : List Entry) (s : Progress) → ((r : ℕ) (n m : Sent) → sent_as x p past ≡ Some n → sent_as x r past ≡ Some m → p ≡ r) → FirstHere x q p past → Stage x past s → (s ≡ Idle) × IsOpen x past
idle_case x q p past Idle home f i = (refl, i)
idle_case x q p past (Asked from d) home f i = none_some f.message (sym (i.1.unsent p) ∙ f.is)
idle_case x q p past (Tried from r to hop) home f i =
    let w = i.1 in
    let here : p ≡ from = home from f.message w.message f.is w.is in
    absurd (false≢true (sym f.still ∙ (ap (λ z. is_tried x (at z past)) here ∙ w.tried)))
idle_case x q p past (Decided from b r a) home f i =
    let w = i.2 in
    let here : p ≡ from = home from f.message w.message f.is w.is in
    absurd (false≢true (sym f.still ∙ (ap (λ z. is_tried x (at z past)) here ∙ w.tried)))
idle_case x q p past (Settled a) home f i = absurd (false≢true (sym f.live ∙ (i p f.message f.is).0))
idle_case x q p past Reported home f i = absurd (false≢true (sym f.live ∙ (i p f.message f.is).0))

pub first_is_idle : (x : MsgId) (q : Ui) (p : ℕ) (past : List Entry) → MessageFacts x past → FirstHere x q p past → (progress (about x past) ≡ Idle) × IsOpen x past
first_is_idle x q p past k f =
    idle_case x q p past (progress (about x past)) (λ r n m a b. k.home p r n m a b) f k.stage
