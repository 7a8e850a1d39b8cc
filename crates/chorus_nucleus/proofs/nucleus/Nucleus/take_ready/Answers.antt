use Rattle.std.proofs.Common.{sym, ap, ◌∙◌, subst, IfOk}
use Rattle.std.proofs.lemmas.Bool.{false≢true}
use Rattle.chorus_ui.specs.declared.ui.Ui.{Ui}
use Rattle.chorus_entry.specs.declared.command.Command.{Command}
use Rattle.chorus_entry.specs.Command.{meets_conditions, has_body_in_limit, is_post}
use Rattle.chorus_entry.specs.Places.{place_for}
use Rattle.chorus_calls.specs.Callers.{Seated}
use Rattle.chorus_turn.specs.Passes.{handed, known}
use Rattle.chorus_nucleus.specs.SiteTurns.Drafts.{meant}
use Rattle.chorus_nucleus.specs.SiteTurns.Jobs.{MayAct}
use Rattle.chorus_nucleus.specs.SiteTurns.Readiness.{TookOrLooked}
use Rattle.chorus_nucleus.specs.SiteTurns.Turning.{NotesAct}
use Rattle.chorus_nucleus.specs.Calls.{worn_after}
use Rattle.chorus_nucleus.proofs.Called.{Turned}
use Rattle.chorus_nucleus.proofs.Joined.{may-there, same-held}
use Rattle.chorus_nucleus.proofs.ReadyTakes.{as-ready}
use Rattle.chorus_nucleus.proofs.nucleus.Nucleus.take_ready.Goals as goal

pub with-done-requires-clause-job : goal.with-done-requires-clause-job
with-done-requires-clause-job c = λ m at.
    let n = c.args.self.now in
    let old = c.args.pass.now in
    let k = meant c.whole-draft.result in
    let is = c.whole-draft.ensures in
    let here = c.place-place.ensures.value ∙ ap (λ (a : Ui). place_for n.layout a k) c.actor.ensures in (
      is,
      (
        ap (λ (w : Seated). w.seat) c.take_caller-caller.ensures.caller ∙ c.requires.pass.caller.seat ∙ sym (ap (λ q. (known q).seat) c.take_caller-caller.ensures.turner),
        subst (λ w. MayAct w k m) (sym c.take_caller-caller.ensures.caller)
            (may-there n.layout (handed n.turns) c.requires.pass.sites c.place-place.result k old.caller c.place-place.ensures.in_layout (ap meets_conditions is ∙ c.requires.port) (ap has_body_in_limit is)
            (λ post. absurd (false≢true (sym (ap is_post is) ∙ post))) c.requires.pass.caller.given here m at),
      ),
    )

pub returns : goal.returns
returns c =
    let n = c.args.self.now in
    let q = c.args.port in
    let old = c.args.pass.now in
    let k = meant c.whole-draft.result in
    let taken = c.take_caller-caller in
    let job = c.with-done.new.job in
    let here = c.place-place.ensures.value ∙ ap (λ (a : Ui). place_for n.layout a k) c.actor.ensures ∙ ap (place_for n.layout old.caller.actor) c.whole-draft.ensures in
    as-ready n q old taken.new.pass.turner c.with-done.new.pass taken.result job.acts.caller c.place-place.result job.acts.took
    c.with-done.result c.answer-result.result c.note_worn-pass.result taken.new.pass.sight c.requires.pass taken.ensures.turner taken.ensures.caller taken.ensures.sight here c.place-place.ensures.in_layout
    c.with-done.ensures.pass c.with-done.ensures.standing
    (subst (λ (d : Command). IfOk c.with-done.result (λ out. Turned (handed n.turns) (λ e f. TookOrLooked d job.acts.took out taken.result job.acts.caller e) (NotesAct d job.acts.took taken.result job.acts.caller) c.place-place.result (known taken.new.pass.turner) (known c.with-done.new.pass)))
    c.whole-draft.ensures c.with-done.ensures.ok)
    (same-held _ (λ j. j.acts.caller) _ _ c.with-done.result c.with-done.ensures.busy) c.answer-result.ensures
    (c.note_worn-pass.ensures ∙ ap (λ o. worn_after o c.answer-result.result) taken.ensures.worn)
