use Rattle.std.proofs.Common.{sym, ◌∙◌}
use Rattle.checker_rows.specs.Lines.{line_in}
use Rattle.checker_rows.proofs.LineChanges.{on_err, when_ok}
use Rattle.checker_rows.proofs.OpenLines.{copy_more}
use Rattle.checker_rows.proofs.message_lines.push_copies.Goals as goal

pub returns-then-is_err-clause-err : goal.returns-then-is_err-clause-err
returns-then-is_err-clause-err c =
    on_err c.push-pushed.result c.push-pushed.ensures.err (λ same.
    c.take_back.ensures (line_in c.args.lines.now) (λ k. same k ∙ c.loop-i.invariant k))

pub loop-i-preserved : goal.loop-i-preserved
loop-i-preserved c = λ k.
    copy_more c.args.place k c.args.post c.copy_of.result c.args.group c.args.members.now c.loop-i.i c.index-members-i.result c.copy_line.result (line_in c.args.lines.now k) (line_in c.loop-i.lines k) (line_in c.push-pushed.new.lines k) c.loop-i-test.true c.index-members-i.is c.copy_of.ensures c.copy_line.ensures (c.loop-i.invariant k)
    (when_ok c.push-pushed.result (sym c.is_err.ensures.value ∙ c.if-is_err.false) c.push-pushed.ensures.ok k)
