use Rattle.std.proofs.Common.{sym, ap, ◌∙◌, subst}
use Rattle.chorus_ui.specs.declared.ui.Ui.{Ui}
use Rattle.chorus_entry.specs.Places.{place_for}
use Rattle.chorus_calls.specs.Callers.{Seated}
use Rattle.chorus_turn.specs.Passes.{handed, known}
use Rattle.chorus_nucleus.specs.declared.site_turns.draft.Draft.{Draft}
use Rattle.chorus_nucleus.specs.SiteTurns.Drafts.{meant}
use Rattle.chorus_nucleus.specs.SiteTurns.Jobs.{MayAct}
use Rattle.chorus_nucleus.specs.Calls.{worn_after, IsCall}
use Rattle.chorus_nucleus.proofs.Joined.{may-there, as-call, same-held}
use Rattle.chorus_nucleus.proofs.nucleus.Nucleus.perform.Goals as goal

pub with-done-requires-clause-job : goal.with-done-requires-clause-job
with-done-requires-clause-job c = λ m at.
    let n = c.args.self.now in
    let old = c.args.pass.now in
    let k = meant c.args.draft.now in
    let here = c.place-place.ensures.value ∙ ap (λ (a : Ui). place_for n.layout a k) c.actor.ensures in (
      ap (λ (w : Seated). w.seat) c.take_caller-caller.ensures.caller ∙ c.requires.pass.caller.seat ∙ sym (ap (λ q. (known q).seat) c.take_caller-caller.ensures.turner),
      subst (λ (d : Draft). MayAct c.take_caller-caller.result (meant d) m) (sym c.same.ensures)
          (subst (λ w. MayAct w k m) (sym c.take_caller-caller.ensures.caller)
          (may-there n.layout (handed n.turns) c.requires.pass.sites c.place-place.result k old.caller c.place-place.ensures.in_layout c.requires.conditions c.requires.body c.requires.posts
          c.requires.pass.caller.given here m at)),
    )

pub returns : goal.returns
returns c =
    let n = c.args.self.now in
    let old = c.args.pass.now in
    let k = meant c.same.result in
    let taken = c.take_caller-caller in
    let here = c.place-place.ensures.value ∙ ap (λ (a : Ui). place_for n.layout a (meant c.args.draft.now)) c.actor.ensures ∙ ap (λ (d : Draft). place_for n.layout old.caller.actor (meant d)) (sym c.same.ensures) in
    subst (λ (d : Draft). IsCall n (meant d) old (record { turner = c.with-done.new.pass; caller = c.with-done.new.job.caller; worn = c.note_worn-pass.result; sight = taken.new.pass.sight }) c.answer-result.result) c.same.ensures
    (as-call n k old taken.new.pass.turner c.with-done.new.pass taken.result c.with-done.new.job.caller c.place-place.result c.with-done.new.job.took
    c.with-done.result c.answer-result.result c.note_worn-pass.result taken.new.pass.sight c.requires.pass taken.ensures.turner taken.ensures.caller taken.ensures.sight here c.place-place.ensures.in_layout
    c.with-done.ensures.pass c.with-done.ensures.standing c.with-done.ensures.ok (same-held _ (λ j. j.caller) _ _ c.with-done.result c.with-done.ensures.busy) c.answer-result.ensures
    (c.note_worn-pass.ensures ∙ ap (λ o. worn_after o c.answer-result.result) taken.ensures.worn))
