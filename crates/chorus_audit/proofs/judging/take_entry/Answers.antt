use Rattle.std.proofs.Common.{rules, ◌++◌, ◌∙◌, ap, inl, is_some}
use Rattle.std.specs.Option.{option_copied}
use Rattle.chorus_audit.specs.Calls.{behind}
use Rattle.chorus_audit.proofs.Steps.{no_entry_line, refused_stop}
use Rattle.chorus_audit.proofs.judging.take_entry.Goals as goal

pub returns-in_err-apply-in-Ok-Some-clause-read : goal.returns-in_err-apply-in-Ok-Some-clause-read
returns-in_err-apply-in-Ok-Some-clause-read c =
    let line = c.cut.result.0.now in
    let whole = c.cut.ensures.whole ∙ ap (λ o. line ++ behind 10 (option_copied o)) c.in-Some.is in
    let read = rw c.in-Ok-Some.field-0-is at c.in-Ok-Some.ensures.some in
    let stop = refused_stop c.args.world.now c.args.text.now line c.in-Some.rest.now c.in-Ok-Some.entry c.in_err-apply-in-Ok-Some.field-0.0
    whole read.1 read.0 c.in_err-apply-in-Ok-Some.ensures.refused in
    search (rules, stop)

pub returns-in-Ok-None-clause-read : goal.returns-in-Ok-None-clause-read
returns-in-Ok-None-clause-read c =
    let line = c.cut.result.0.now in
    let whole = c.cut.ensures.whole ∙ ap (λ o. line ++ behind 10 (option_copied o)) c.in-Some.is in
    inl (no_entry_line c.args.text.now line c.in-Some.rest.now whole c.cut.ensures.before (c.in-Ok-None.ensures.none (ap is_some c.in-Ok-None.field-0-is)))
