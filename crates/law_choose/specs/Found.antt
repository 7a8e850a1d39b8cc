-- What a receive found at each port that it looked at, in the merge of what was closed.
-- past is the merge, its newest entry first, s the seat of the pass, a its actor, q a port, n a position, x an id, e an
-- entry of the receive, es its entries in order; `earlier` are the ports of earlier rounds, `ports` those of the
-- receive in the order in which they are looked at.
use Rattle.std.specs.Prelude.{ℕ, ◌≡◌, ◌⊎◌, true, false, List, [], ◌∷◌, ◌++◌, length, Some, slice_get, Result, Ok, Err}
use Rattle.std.specs.List.{Contains}
use Rattle.chorus_ui.specs.declared.ui.Ui.{Ui}
use Rattle.chorus_ui.specs.Layout.{IsLayout}
use Rattle.chorus_entry.specs.declared.entry.Entry.{Entry}
use Rattle.chorus_entry.specs.declared.id.MsgId.{MsgId}
use Rattle.chorus_entry.specs.declared.act.Act.{Act}
use Rattle.chorus_world.specs.Views.{on}
use Rattle.chorus_world.specs.Ports.{fate}
use Rattle.chorus_world.specs.AcceptedLaws.{accepted_by, taken_by}
use Rattle.chorus_world.specs.SentLaws.{StandsIn}
use Rattle.law_world.specs.Holding.{holds}
use Rattle.law_history.specs.Journals.{Comer}
use Rattle.law_history.specs.Runs.{actor_among}
use Rattle.law_closing.specs.Places.{PlaceNote}
use Rattle.chorus_turn.specs.declared.knowledge.Placed.{Placed}
use Rattle.chorus_turn.specs.declared.knowledge.Note.{Note}
use Rattle.chorus_turn.specs.declared.knowledge.Knowledge.{Knowledge}
use Rattle.chorus_net.specs.declared.closed.Closed.{Closed}
use Rattle.chorus_net.specs.Closing.{past_of}
use Rattle.chorus_nucleus.specs.declared.fault.CallFault.{CallFault}
use Rattle.chorus_nucleus.specs.declared.nucleus.Nucleus.{Nucleus}
use Rattle.chorus_nucleus.specs.declared.pass.Pass.{Pass}
use Rattle.chorus_nucleus.specs.Passes.{layout_of, known}
use Rattle.chorus_nucleus.specs.Closing.{ClosesAs}
use Rattle.chorus_choose.specs.declared.received.Received.{Received}
use Rattle.chorus_choose.specs.declared.received.Received.TheVariants as receives
use Rattle.chorus_choose.specs.Rounds.{IsReceive}
use Rattle.law_crews.specs.Crewed.{entries_made}
use Rattle.law_crews.specs.Passes.{passes_of}

-- The world at one look; older is what stands before its entry.

-- the actor held the port, and all that it had accepted was received
abbrev pub NothingWaited : Ui → Ui → List Entry → Type 0
NothingWaited a q older = (holds a (fate (on q older)) ≡ true) × (taken_by q older ≡ length (accepted_by q older))

-- the actor did not hold the port, at whatever place
abbrev pub WasNotHeld : Ui → Ui → List Entry → Type 0
WasNotHeld a q older = holds a (fate (on q older)) ≡ false

-- the actor held the port, and this was the first message that waited
abbrev pub WaitedFirst : Ui → Ui → ℕ → MsgId → List Entry → Type 0
WaitedFirst a q n x older = (holds a (fate (on q older)) ≡ true) × (n ≡ taken_by q older)
    × (slice_get (accepted_by q older) n ≡ Some x)

-- The looks of a receive.

-- the entry stands in the merge and is the seat's
pub record IsLook (past : List Entry) (s : ℕ) (e : Entry) : Type 0 where
  pub stands : StandsIn e past
  pub seat : e.seat ≡ s

-- an Empty, when nothing waited; or a NotHere, when the actor did not hold the port
pub record FoundNothing (past : List Entry) (s : ℕ) (a q : Ui) (e : Entry) : Type 0 where
  pub look : IsLook past s e
  pub tells : ((e.act ≡ Act.Empty q) × NothingWaited a q look.stands.older)
      ⊎ ((e.act ≡ Act.NotHere q) × WasNotHeld a q look.stands.older)

-- so at each of these ports in turn, each by its own entry
abbrev pub FoundNothingAt : List Entry → ℕ → Ui → List Ui → List Entry → Type 0
FoundNothingAt past s a [] [] = Unit {0}
FoundNothingAt past s a (q ∷ qs) (e ∷ es) = FoundNothing past s a q e × FoundNothingAt past s a qs es
FoundNothingAt past s a _ _ = ⊥

-- the message that was taken
pub record FoundFirst (past : List Entry) (s : ℕ) (a q : Ui) (n : ℕ) (x : MsgId) (e : Entry) : Type 0 where
  pub look : IsLook past s e
  pub act : e.act ≡ Act.Take q n x
  pub waited : WaitedFirst a q n x look.stands.older

-- behind looks in vain, at the ports of earlier rounds and at those before it, q had the message
pub record FoundAfter (past : List Entry) (s : ℕ) (a : Ui) (earlier ports : List Ui) (q : Ui) (n : ℕ) (x : MsgId)
    (es : List Entry) : Type 0 where
  pub front : List Ui
  pub rest : List Ui
  pub split : ports ≡ front ++ q ∷ rest
  pub looks : List Entry
  pub take : Entry
  pub behind : List Entry
  pub entries : es ≡ looks ++ take ∷ behind
  pub nothing : FoundNothingAt past s a (earlier ++ front) looks
  pub first : FoundFirst past s a q n x take

-- it was stopped at one of the ports, behind looks in vain
pub record StoppedBehind (past : List Entry) (s : ℕ) (a : Ui) (earlier ports : List Ui) (es : List Entry) : Type 0 where
  pub front : List Ui
  pub at : Ui
  pub rest : List Ui
  pub split : ports ≡ front ++ at ∷ rest
  pub nothing : FoundNothingAt past s a (earlier ++ front) es

-- So it answers Empty exactly where there was nothing for the actor at each port, when it was looked at.
abbrev pub FoundBy : List Entry → ℕ → Ui → List Ui → List Ui → Result Received CallFault → List Entry → Type 0
FoundBy past s a earlier ports (Ok (receives.Empty looked)) es = FoundNothingAt past s a (earlier ++ ports) es
FoundBy past s a earlier ports (Ok (receives.Taken q n m settled)) es = FoundAfter past s a earlier ports q n m.id es
FoundBy past s a earlier ports (Err f) es = StoppedBehind past s a earlier ports es

-- the pass of this note made these between the two moments
pub record MadeBetween (v u : Knowledge PlaceNote) (news : List (Placed PlaceNote)) (m : Note PlaceNote) : Type 0 where
  pub grown : u.mine ≡ v.mine ++ news
  pub later : List (Placed PlaceNote)
  pub goes_on : m.mine ≡ u.mine ++ later

-- Of each receive of a pass that closed the nucleus, or was retired into the one that did: w is what the closing pass
-- knew, m the note of the pass.
abbrev pub ReceivesToldWhatWaited : Type 0
ReceivesToldWhatWaited =
    (n : Nucleus) (w : Knowledge PlaceNote) (comers : List Comer) (c : Closed) (m : Note PlaceNote) (a : Ui)
    (earlier ports : List Ui) (r : Result Received CallFault) (old new : Pass) (news : List (Placed PlaceNote)) →
    IsLayout (layout_of n) → ClosesAs (layout_of n) w comers c → Contains (passes_of w) m →
    actor_among comers m.seat ≡ Some a → IsReceive n earlier ports r old new →
    MadeBetween (known old) (known new) news m → FoundBy (past_of c) m.seat a earlier ports r (entries_made news)
