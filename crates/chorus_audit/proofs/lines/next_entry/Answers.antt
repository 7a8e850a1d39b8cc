use Rattle.std.proofs.Common.{◌++◌, ◌∙◌, ap, is_some}
use Rattle.std.specs.Option.{option_copied}
use Rattle.chorus_audit.specs.Calls.{behind}
use Rattle.chorus_audit.proofs.Steps.{no_entry_line}
use Rattle.chorus_audit.proofs.lines.next_entry.Goals as goal

-- src/lines.rt:62:1
pub returns-in-None : goal.returns-in-None
returns-in-None c =
    let line = c.cut.result.0.now in
    let whole = c.cut.ensures.whole ∙ ap (λ o. line ++ behind 10 (option_copied o)) c.in-Some.is in
    no_entry_line c.args.text.now line c.in-Some.rest.now whole c.cut.ensures.before (c.in_ok-entry.ensures.none (ap is_some c.in-None.is))
