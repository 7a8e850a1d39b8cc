use Rattle.std.proofs.Common.{ap, sym, ◌∙◌, is_some}
use Rattle.std.specs.Option.{option_copied_mut}
use Rattle.std.specs.HashMap.{get}
use Rattle.checker_rows.specs.Keys.{same_line}
use Rattle.checker_rows.proofs.LineChanges.{others_stay}
use Rattle.checker_rows.proofs.message_lines.shorten_line.Goals as goal

pub returns-in-Some-clause-others : goal.returns-in-Some-clause-others
returns-in-Some-clause-others c =
    let found = sym c.get_mut.ensures.value ∙ ap option_copied_mut c.in-Some.is in
    others_stay (get same_line c.args.lines.now) (get same_line (c.get_mut.follows.lender c.shorten.new.line)) c.args.key.now c.shorten.new.line (((c.get_mut.follows.holds c.shorten.new.line).3 (ap is_some found)).0)
