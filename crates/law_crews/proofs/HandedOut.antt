-- A message that was handed out stands at its position among those that its port accepted.
-- q is a port, n a position, x a message's id, e an entry that hands it out, past is a run, its newest entry first.
use Rattle.std.proofs.Common.{ℕ, ◌≡◌, ◌==◌, inl, inr, true, ◌&&◌, List, [], ◌∷◌, Option, Some, None, slice_get, ◌∙◌, ap, subst}
use Rattle.std.proofs.lemmas.Bool.{and_parts, false≢true}
use Rattle.chorus_ui.specs.declared.ui.Ui.{Ui}
use Rattle.chorus_ui.specs.declared.layout.Layout.{Layout}
use Rattle.chorus_ui.specs.Layout.{IsLayout}
use Rattle.chorus_entry.specs.declared.entry.Entry.{Entry}
use Rattle.chorus_entry.specs.declared.id.MsgId.{MsgId}
use Rattle.chorus_entry.specs.declared.act.Act.{Act}
use Rattle.chorus_entry.specs.MsgId.{same_id}
use Rattle.chorus_entry.specs.Kinds.{has_kinds}
use Rattle.chorus_entry.specs.Same.{are_same}
use Rattle.chorus_world.specs.Views.{views, on}
use Rattle.chorus_world.specs.Ports.{PortState, fate, is_held_at, is_first_waiting}
use Rattle.chorus_world.specs.Places.{just_taken}
use Rattle.chorus_world.specs.Steps.{may, act_may, act_follows, is_timely, may_stand_behind}
use Rattle.chorus_world.specs.Runs.{is_run, may_run}
use Rattle.chorus_world.specs.AcceptedLaws.{accepted_by, accepted_from}
use Rattle.chorus_world.proofs.Ports.LineLemmas.{id_is}
use Rattle.chorus_world.proofs.Ports.PortLaws.{accepted_grows}
use Rattle.chorus_world.proofs.Sorted.Holders.{run_is_legal}
use Rattle.law_crews.proofs.Lists.{In, get-longer}

waits : (n : ℕ) (x : MsgId) (o : Option PortState) → is_first_waiting n x o ≡ true → slice_get (accepted_from o) n ≡ Some x
waits n x None h = absurd (false≢true h)
waits n x (Some f) h = id_is x (slice_get f.accepted n) (and_parts (n == f.taken) (are_same same_id (Some x) (slice_get f.accepted n)) h).1

-- an entry that may come next hands out the message that is next
next-out : (l : Layout) (past : List Entry) (e : Entry) (q : Ui) (n : ℕ) (x : MsgId) → may l past e ≡ true → e.act ≡ Act.Take q n x → slice_get (accepted_by q past) n ≡ Some x
next-out l past e q n x h act =
    let v = views past e.place e.seat e.act in
    let follows = (and_parts (is_timely l v e) (act_follows l v e.place e.seat e.act) h).1 in
    let needs = (and_parts (has_kinds e.act && may_stand_behind (just_taken past v.here) e.act) (act_may l v e.place e.seat e.act) follows).1 in
    let takes = subst (λ a. act_may l (views past e.place e.seat a) e.place e.seat a ≡ true) act needs in
    waits n x (fate (on q past)) (and_parts (is_held_at e.place (fate (on q past))) (is_first_waiting n x (fate (on q past))) takes).1

pub has-position : (l : Layout) (callers : ℕ → Option Ui) (past : List Entry) (q : Ui) (n : ℕ) (x : MsgId) (e : Entry) → IsLayout l → is_run l callers past ≡ true → In e past → e.act ≡ Act.Take q n x → slice_get (accepted_by q past) n ≡ Some x
has-position l callers [] q n x e shape run a act = absurd a
has-position l callers (f ∷ past) q n x e shape run a act =
    let parts = and_parts (may l past f && may_run callers past f) (is_run l callers past) run in
    let grown = accepted_grows l (f ∷ []) past q shape (run_is_legal l callers (f ∷ past) run) in
    let before : slice_get (accepted_by q past) n ≡ Some x = elim a [
      | inl is ↦ next-out l past f q n x (and_parts (may l past f) (may_run callers past f) parts.0).0 (ap (λ (z : Entry). z.act) is ∙ act)
      | inr more ↦ has-position l callers past q n x e shape parts.1 more act
    ] in
    ap (λ xs. slice_get xs n) grown.1 ∙ get-longer (accepted_by q past) grown.0 n x before
