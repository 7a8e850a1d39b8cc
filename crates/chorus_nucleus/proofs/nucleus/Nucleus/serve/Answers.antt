use Rattle.std.proofs.Common.{ap, ◌∙◌}
use Rattle.chorus_nucleus.specs.Calls.{worn_after}
use Rattle.chorus_nucleus.proofs.Joined.{as-serve, same-held}
use Rattle.chorus_nucleus.proofs.nucleus.Nucleus.serve.Goals as goal

pub returns : goal.returns
returns g c =
    let taken = c.take_caller-caller in
    as-serve c.args.self.now c.args.pass.now taken.new.pass.turner c.with-done.new.pass taken.result c.with-done.new.job.caller c.args.place c.with-done.new.job.took
    c.with-done.new.job.before c.with-done.result c.answer-result.result c.note_worn-pass.result taken.new.pass.sight c.requires.pass taken.ensures.turner taken.ensures.caller taken.ensures.sight c.requires.place
    c.with-done.ensures.pass c.with-done.ensures.standing c.with-done.ensures.ok (same-held _ (λ j. j.caller) _ _ c.with-done.result c.with-done.ensures.busy) c.answer-result.ensures
    (c.note_worn-pass.ensures ∙ ap (λ o. worn_after o c.answer-result.result) taken.ensures.worn)
