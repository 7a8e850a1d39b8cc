use Rattle.std.proofs.Common.{◌++◌, ◌∙◌, ap, sym, None, Some, arith, length, length-append}
use Rattle.std.proofs.lemmas.Bool.Decides.{Decides-eqb}
use Rattle.std.proofs.lemmas.Slice.Eq.{strip_prefix_is}
use Rattle.chorus_show.specs.Summary.{summary_lines, summary_text}
use Rattle.chorus_audit.specs.Tests.{lines_shared}
use Rattle.chorus_audit.proofs.Waiters.{is_unlike, of_parts}
use Rattle.chorus_audit.proofs.judging.summary_fault.Goals as goal

pub end_fault-requires-clause-lines : goal.end_fault-requires-clause-lines
end_fault-requires-clause-lines c =
    let es = c.args.entries.now in
    c.before_end-lines.ensures (summary_lines es) (c.deref.ensures.value ∙ c.in_ok-summary_text.ensures.ok ∙ ap (λ xs. xs ++ summary_text es) c.new-summary.ensures.items)

pub end_fault-requires-clause-short : goal.end_fault-requires-clause-short
end_fault-requires-clause-short c =
    let whole = strip_prefix_is Decides-eqb c.args.text.now c.before_end-lines.result.now (Some c.in-Some.left) c.in-Some.ensures.cases in
    omega (arith, ap length whole, length-append c.before_end-lines.result.now c.in-Some.left.now, c.requires.short)

pub returns-in-Some : goal.returns-in-Some
returns-in-Some c =
    let whole = strip_prefix_is Decides-eqb c.args.text.now c.before_end-lines.result.now (Some c.in-Some.left) c.in-Some.ensures.cases in
    of_parts c.args.entries.now c.args.text.now c.before_end-lines.result.now c.in-Some.left.now c.end_fault.result whole c.end_fault.ensures

pub returns : goal.returns
returns c =
    let es = c.args.entries.now in
    let text = c.args.text.now in
    let summary = c.in_ok-summary_text.ensures.ok ∙ ap (λ xs. xs ++ summary_text es) c.new-summary.ensures.items in
    let lines = c.before_end-lines.ensures (summary_lines es) (c.deref.ensures.value ∙ summary) in
    let none = strip_prefix_is Decides-eqb text c.before_end-lines.result.now None c.in-None.ensures.cases in (
      is_unlike es text (λ more is. none more (is ∙ ap (λ ls. ls ++ more) (sym lines))) c.lines_shared.result (c.lines_shared.ensures.value ∙ ap (lines_shared text) (c.deref-in-None.ensures.value ∙ summary)),
      c.lines_shared.ensures.bound,
    )
