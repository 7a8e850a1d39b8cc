use Rattle.std.proofs.Common.{◌≡◌, ℕ, ◌∙◌}
use Rattle.chorus_claims.proofs.Cuts.{line_before, last_line, shorter}
use Rattle.chorus_claims.proofs.matching.cut_line.Goals as goal

pub returns-in-Some-clause-lines : goal.returns-in-Some-clause-lines
returns-in-Some-clause-lines c =
    line_before c.args.text.now c.cut.result.0.now c.in-Some.behind.now c.requires (rw c.in-Some.is at c.cut.ensures)

pub returns-in-Some-clause-shorter : goal.returns-in-Some-clause-shorter
returns-in-Some-clause-shorter c =
    shorter 10 c.args.text.now c.cut.result.0.now c.in-Some.behind.now (rw c.in-Some.is at c.cut.ensures)

pub returns-in-None-clause-lines : goal.returns-in-None-clause-lines
returns-in-None-clause-lines c = last_line c.args.text.now c.cut.result.0.now c.requires (rw c.in-None.is at c.cut.ensures)
