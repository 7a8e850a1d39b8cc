use Rattle.std.proofs.Common.{◌≡◌, ap, sym, ◌∙◌, reverse, Some, None}
use Rattle.std.specs.Prelude.{slice_get}
use Rattle.std.specs.Option.{option_copied}
use Rattle.std.proofs.lemmas.List.{reverse-reverse}
use Rattle.chorus_world.specs.Seats.{call, first_call}
use Rattle.chorus_world.specs.Steps.{State}
use Rattle.chorus_world.specs.Views.{by}
use Rattle.checker_rows.specs.Seats.{first_index}
use Rattle.checker_ledger.specs.Worlds.{repeats}
use Rattle.checker_ledger.proofs.CallIndex.{read_first, read_there, read_none}
use Rattle.checker_ledger.proofs.ledger.Ledger.is_call_again.Goals as goal

pub returns-in-Some-entry_at : goal.returns-in-Some-entry_at
returns-in-Some-entry_at c =
    let past = reverse c.self.inside.entries.items in
    let l = c.self.inside.layout in
    let s = c.args.seat in
    let n = c.args.number in
    let i = c.in-Some.index in
    let out : call (by s past) ≡ Some n = ap (λ (w : State). call (by s w.past)) c.self.view_is ∙ c.requires in
    let at : first_index s past ≡ Some i = ap (λ r. r.first) (sym (c.seat_in.ensures ∙ c.self.invariant.1.seats s)) ∙ c.in-Some.is in
    let there : slice_get (reverse past) i ≡ Some c.in-Some-entry_at.first.now = ap (λ es. slice_get es i) (reverse-reverse c.self.inside.entries.items) ∙ (ap (λ es. slice_get es i) (sym c.as_slice.ensures.value) ∙ (sym c.entry_at.ensures ∙ ap option_copied c.in-Some-entry_at.is)) in
    c.repeats.ensures
    ∙ (ap (λ o. repeats o n c.args.message.now c.args.dest.now) (sym (read_first l past s n c.self.invariant.0 out i c.in-Some-entry_at.first.now at there))
    ∙ ap (λ (w : State). repeats (first_call n (by s w.past)) n c.args.message.now c.args.dest.now) c.self.view_is)

pub returns-in-None-entry_at : goal.returns-in-None-entry_at
returns-in-None-entry_at c =
    let past = reverse c.self.inside.entries.items in
    let s = c.args.seat in
    let n = c.args.number in
    let i = c.in-Some.index in
    let out : call (by s past) ≡ Some n = ap (λ (w : State). call (by s w.past)) c.self.view_is ∙ c.requires in
    let at : first_index s past ≡ Some i = ap (λ r. r.first) (sym (c.seat_in.ensures ∙ c.self.invariant.1.seats s)) ∙ c.in-Some.is in
    let there : slice_get (reverse past) i ≡ None = ap (λ es. slice_get es i) (reverse-reverse c.self.inside.entries.items) ∙ (ap (λ es. slice_get es i) (sym c.as_slice.ensures.value) ∙ (sym c.entry_at.ensures ∙ ap option_copied c.in-None-entry_at.is)) in
    absurd (read_there c.self.inside.layout past s n c.self.invariant.0 out i at there)

pub returns-in-None : goal.returns-in-None
returns-in-None c =
    let past = reverse c.self.inside.entries.items in
    let s = c.args.seat in
    let n = c.args.number in
    let out : call (by s past) ≡ Some n = ap (λ (w : State). call (by s w.past)) c.self.view_is ∙ c.requires in
    let none : first_index s past ≡ None = ap (λ r. r.first) (sym (c.seat_in.ensures ∙ c.self.invariant.1.seats s)) ∙ c.in-None.is in
    sym (ap (λ o. repeats o n c.args.message.now c.args.dest.now) (read_none c.self.inside.layout past s n c.self.invariant.0 out none))
    ∙ ap (λ (w : State). repeats (first_call n (by s w.past)) n c.args.message.now c.args.dest.now) c.self.view_is
