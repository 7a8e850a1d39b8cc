-- The promise of a queue of jobs, said of the merge of all journals. A past has its newest entry first.
-- q is the queue, a port; a job is named by the id of its message.
use Rattle.std.specs.Prelude.{ℕ, ◌≡◌, List, Option, Some, slice_get}
use Rattle.chorus_ui.specs.declared.kind.Kind.TheVariants as kinds
use Rattle.chorus_ui.specs.declared.ui.Ui.{Ui}
use Rattle.chorus_ui.specs.Name.{new_name}
use Rattle.chorus_entry.specs.declared.entry.Entry.{Entry}
use Rattle.chorus_entry.specs.declared.id.MsgId.{MsgId}
use Rattle.chorus_world.specs.Views.{on}
use Rattle.chorus_world.specs.Always.{Always}
use Rattle.chorus_world.specs.AcceptedLaws.{accepted_by, received}
use Rattle.chorus_turn.specs.Lists.{StartsWith}

-- the queue of this site: its first port
abbrev pub queue_at : ℕ → Option Ui
queue_at site = new_name site kinds.Port 1

-- the jobs that the queue accepted, in order
abbrev pub accepted : Ui → List Entry → List MsgId
accepted q past = accepted_by q past

-- the jobs that were handed out, in order, whoever held the queue and wherever it was
abbrev pub handed_out : Ui → List Entry → List MsgId
handed_out q past = received (on q past)

-- no job stands in the list twice
abbrev pub IsOnce : List MsgId → Type 0
IsOnce jobs =
    (i j : ℕ) (x : MsgId) → slice_get jobs i ≡ Some x → slice_get jobs j ≡ Some x → i ≡ j

-- the jobs that were handed out are the first that were accepted, in the same order; and each was accepted and handed
-- out at most once
pub record KeepsPromise (q : Ui) (past : List Entry) : Type 0 where
  pub in_order : StartsWith (accepted q past) (handed_out q past)
  pub accepted_once : IsOnce (accepted q past)
  pub handed_out_once : IsOnce (handed_out q past)

-- it kept its promise at each moment of the run
abbrev pub AlwaysKeepsPromise : Ui → List Entry → Type 0
AlwaysKeepsPromise q past = Always (KeepsPromise q) past
