use Rattle.std.proofs.Common.{◌≡◌, length, arith}
use Rattle.std.specs.Vec.{vec_len}
use Rattle.chorus_run.proofs.ReportParts.Parts.{printed-whole, printed-within}
use Rattle.chorus_run.proofs.report_parts.printing.line_parts.Goals as goal

pub returns-clause-text : goal.returns-clause-text
returns-clause-text g c =
    let printed = c.in_ok-printed.printed in
    let len : vec_len printed ≡ length printed.items = omega (arith, printed.ok.0) in
    printed-whole c.args.entries.now _ (vec_len printed) printed.items len c.in_ok-printed.ensures.each c.in_ok-printed.ensures.len c.all_parts.result c.all_parts.ensures

pub returns-clause-within : goal.returns-clause-within
returns-clause-within g c =
    let printed = c.in_ok-printed.printed in
    let len : vec_len printed ≡ length printed.items = omega (arith, printed.ok.0) in
    printed-within c.args.entries.now _ (vec_len printed) printed.items len c.in_ok-printed.ensures.each c.in_ok-printed.ensures.len c.all_parts.result c.all_parts.ensures
