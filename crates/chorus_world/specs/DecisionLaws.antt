-- The laws of decisions, and of what is told and heard of them: what such an entry says of the world before it.
-- l is a layout, past what stands before the entry e.
use Rattle.std.specs.Prelude.{ℕ, ◌≡◌, ◌≢◌, ◌<◌, ◌⊎◌, true, false, List, length, Option, Some, None, slice_get}
use Rattle.chorus_ui.specs.declared.ui.Ui.{Ui}
use Rattle.chorus_ui.specs.declared.layout.Layout.{Layout}
use Rattle.chorus_ui.specs.Layout.{has_site, site_of}
use Rattle.chorus_entry.specs.declared.entry.Entry.{Entry}
use Rattle.chorus_entry.specs.declared.id.MsgId.{MsgId}
use Rattle.chorus_entry.specs.declared.answer.Answer.{Answer}
use Rattle.chorus_entry.specs.declared.act.Act.{Act}
use Rattle.chorus_entry.specs.declared.act.Act.TheVariants.{Accept, Full, Already, ClientsFull, Stale, Elsewhere, Told, Heard}
use Rattle.chorus_entry.specs.Act.{is_decision, message_of}
use Rattle.chorus_entry.specs.Answer.{is_final}
use Rattle.chorus_world.specs.declared.progress.Progress.TheVariants.{Tried}
use Rattle.chorus_world.specs.Views.{at, on, about}
use Rattle.chorus_world.specs.Ports.{PortState, fate, is_held_at, waiting}
use Rattle.chorus_world.specs.Posts.{site_asked}
use Rattle.chorus_world.specs.Messages.{progress, verdict}
use Rattle.chorus_world.specs.Places.{is_first, located}
use Rattle.chorus_world.specs.LocationLaws.{path_of}
use Rattle.chorus_world.specs.GroupLaws.{copies_of}

-- the port that decides on a message by itself: by its room and by what it keeps of requests
abbrev pub port_met : Act → Option Ui
port_met (Accept x q n) = Some q
port_met (Full x q n) = Some q
port_met (Already x q) = Some q
port_met (ClientsFull x q) = Some q
port_met _ = None

-- it does so only where it is held
abbrev pub MeetsWhereHeld : List Entry → Entry → Type 0
MeetsWhereHeld past e = (q : Ui) → port_met e.act ≡ Some q → is_held_at e.place (fate (on q past)) ≡ true

-- an Accept stands only where fewer messages wait than the port has room for, and puts the message behind those
-- accepted
abbrev pub AcceptsWithRoom : List Entry → Entry → Type 0
AcceptsWithRoom past e =
    (x : MsgId) (q : Ui) (n : ℕ) → e.act ≡ Accept x q n →
    (f : PortState) × (fate (on q past) ≡ Some f) × (waiting f < f.capacity) × (n ≡ length f.accepted)

-- a Full stands only where as many messages wait as the port has room for, and says how many
abbrev pub FullWithoutRoom : List Entry → Entry → Type 0
FullWithoutRoom past e =
    (x : MsgId) (q : Ui) (n : ℕ) → e.act ≡ Full x q n →
    (f : PortState) × (fate (on q past) ≡ Some f) × (waiting f ≡ f.capacity) × (n ≡ f.capacity)

-- The place of e was tried too late for the port q: x stands tried there with a hop, and the place does not hold the
-- port, and locates it at another place, `to`, by a later hop.
pub record IsPassed (l : Layout) (past : List Entry) (e : Entry) (x : MsgId) (q : Ui) (tried to hop : ℕ) : Type 0 where
  pub from : ℕ
  pub is : progress (about x past) ≡ Tried from q e.place tried
  pub away : is_held_at e.place (fate (on q past)) ≡ false
  pub known : located l q (at e.place past) ≡ record { to = to; hop = hop }
  pub elsewhere : to ≢ e.place
  pub later : tried < hop

-- x is the next to be tried for the port q from the place of e, which locates the port off the site
pub record IsOffSite (l : Layout) (past : List Entry) (e : Entry) (x : MsgId) (q : Ui) (to hop site : ℕ) : Type 0 where
  pub first : is_first x q (at e.place past) ≡ true
  pub within : has_site l q.site ≡ true
  pub known : located l q (at e.place past) ≡ record { to = to; hop = hop }
  pub off : site_of l to ≢ site

-- a Stale stands only where a place was tried too late, for a message that asks for no site, and names where the place
-- locates the port, which is on the port's path at that hop
abbrev pub StaleNamesLater : Layout → List Entry → Entry → Type 0
StaleNamesLater l past e =
    (x : MsgId) (q : Ui) (tried to hop : ℕ) → e.act ≡ Stale x q tried to hop →
    IsPassed l past e x q tried to hop × (site_asked x past ≡ None)
    × (slice_get (path_of l q (fate (on q past))) hop ≡ Some to)

-- an Elsewhere stands only for a message that asks for a site, and names where its place locates the port, which is on
-- the port's path at that hop: off the site, where the message is the next to be tried, or as a Stale does
abbrev pub ElsewhereNamesPath : Layout → List Entry → Entry → Type 0
ElsewhereNamesPath l past e =
    (x : MsgId) (q : Ui) (to hop : ℕ) → e.act ≡ Elsewhere x q to hop →
    (site : ℕ) × (site_asked x past ≡ Some site) × (slice_get (path_of l q (fate (on q past))) hop ≡ Some to)
    × (IsOffSite l past e x q to hop site ⊎ ((tried : ℕ) × IsPassed l past e x q tried to hop))

-- the decision that names where a port is
abbrev pub naming_decision : Option ℕ → MsgId → Ui → ℕ → ℕ → ℕ → Act
naming_decision None x q tried to hop = Stale x q tried to hop
naming_decision (Some site) x q tried to hop = Elsewhere x q to hop

-- and a place that was tried too late answers so: its decision on the message is Stale, or Elsewhere where the message
-- asks for a site, and names where the place locates the port
abbrev pub AnswersNewer : Layout → List Entry → Entry → Type 0
AnswersNewer l past e =
    (x : MsgId) (q : Ui) (tried to hop : ℕ) → is_decision e.act ≡ true → message_of e.act ≡ Some x →
    IsPassed l past e x q tried to hop → e.act ≡ naming_decision (site_asked x past) x q tried to hop

-- a Told other than Stale says the verdict of its message
abbrev pub TellsTheVerdict : List Entry → Entry → Type 0
TellsTheVerdict past e =
    (x : MsgId) (a : Answer) → e.act ≡ Told x a → is_final a ≡ true → verdict x past ≡ Some a

-- a Heard says the verdict of its message, or how many copies a choice made of it, where one made some
abbrev pub HearsTheEnd : List Entry → Entry → Type 0
HearsTheEnd past e =
    (x : MsgId) (a : Answer) → e.act ≡ Heard x a →
    (verdict x past ≡ Some a) ⊎ ((a ≡ Answer.Chosen (length (copies_of x past))) × (0 < length (copies_of x past)))
