use Rattle.std.proofs.Common.{◌≡◌, ◌+◌, ◌++◌, ◌∙◌, ap, arith, refl, sym, None, Some}
use Rattle.std.proofs.lemmas.Bool.Decides.{Decides-eqb}
use Rattle.std.proofs.lemmas.Slice.Eq.{strip_prefix_is}
use Rattle.chorus_show.specs.declared.stuck.Stuck.{Stuck}
use Rattle.chorus_show.specs.Report.{stuck_line}
use Rattle.chorus_audit.proofs.Waiters.{begins, commands_few, no_line}
use Rattle.chorus_audit.proofs.awaits.next_stuck.Goals as goal

pub overflow_add-stuck : goal.overflow_add-stuck
overflow_add-stuck c = omega (arith, c.given_by.ensures, c.requires.few.1 c.in-Some.script, commands_few c.in-Some.script c.requires.few.0, c.requires.few.2)

pub returns-in-Some-strip_prefix : goal.returns-in-Some-strip_prefix
returns-in-Some-strip_prefix c = λ es given.
    let stuck : Stuck = record { script = c.in-Some.script; command = c.given_by.result + 1 } in
    let printed : c.as_slice.result.now ≡ stuck_line stuck = c.as_slice.ensures.value ∙ c.in_ok-push_stuck.ensures ∙ ap (λ o. o ++ stuck_line stuck) c.clear.ensures.items in
    let whole = strip_prefix_is Decides-eqb c.args.text.now c.as_slice.result.now (Some c.in-Some-strip_prefix.behind) c.in-Some-strip_prefix.ensures.cases in
    begins es c.args.last c.args.text.now c.in-Some.script stuck c.in-Some-strip_prefix.behind.now (omega (arith, c.if-script-last.false)) c.in-Some.ensures.fits refl
    (ap (λ m. m + 1) (c.given_by.ensures ∙ given c.in-Some.script)) (whole ∙ ap (λ l. l ++ c.in-Some-strip_prefix.behind.now) printed)

pub returns-in-None : goal.returns-in-None
returns-in-None c = λ es given.
    let stuck : Stuck = record { script = c.in-Some.script; command = c.given_by.result + 1 } in
    let printed : c.as_slice.result.now ≡ stuck_line stuck = c.as_slice.ensures.value ∙ c.in_ok-push_stuck.ensures ∙ ap (λ o. o ++ stuck_line stuck) c.clear.ensures.items in
    let none = strip_prefix_is Decides-eqb c.args.text.now c.as_slice.result.now None c.in-None.ensures.cases in
    no_line es c.args.last c.args.text.now (Some c.in-Some.script) c.in-Some.script c.in-Some.ensures.script refl stuck refl
    (ap (λ m. m + 1) (c.given_by.ensures ∙ given c.in-Some.script)) (λ rest is. none rest (is ∙ ap (λ l. l ++ rest) (sym printed)))
