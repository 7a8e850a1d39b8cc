use Rattle.std.proofs.Common.{sym, ◌∙◌, ap, arith, ◌≡◌, ◌++◌, ◌<◌, ◌+◌, ◌-◌, length, take}
use Rattle.std.proofs.Math.Seq.{take-length}
use Rattle.chorus_world.specs.Places.{copies}
use Rattle.checker_rows.specs.Lines.{line_in, sent_by_line}
use Rattle.checker_rows.proofs.OpenLines.{copy_back, all_back}
use Rattle.checker_rows.proofs.message_lines.take_back.Goals as goal

pub loop-left-init : goal.loop-left-init
loop-left-init c = (
  omega arith,
  λ before h k. h k ∙ ap (λ ms. before k ++ sent_by_line c.args.place k (copies c.args.post c.args.group 1 ms)) (sym (take-length c.args.members.now)),
)

pub loop-left-preserved : goal.loop-left-preserved
loop-left-preserved c =
    let n : c.loop-left.left - 1 + 1 ≡ c.loop-left.left = omega (arith, c.loop-left-test.true) in
    let lt : c.loop-left.left - 1 < length c.args.members.now = omega (arith, c.loop-left-test.true, c.loop-left.invariant.0) in (
      omega (arith, c.loop-left.invariant.0),
      λ before h k.
          copy_back c.args.place k c.args.post c.args.group c.args.members.now (c.loop-left.left - 1) c.index-members-left.result c.copy_line.result (before k) (line_in c.loop-left.lines k) (line_in c.take_last.new.lines k) lt c.index-members-left.is c.copy_line.ensures
          (c.loop-left.invariant.1 before h k ∙ ap (λ i. before k ++ sent_by_line c.args.place k (copies c.args.post c.args.group 1 (take i c.args.members.now))) (sym n))
          (c.take_last.ensures k),
    )

pub returns : goal.returns
returns c = λ before h k.
    all_back c.args.place k c.args.post c.args.group c.args.members.now c.loop-left.left (before k) (line_in c.loop-left.lines k) c.loop-left-test.false (c.loop-left.invariant.1 before h k)
