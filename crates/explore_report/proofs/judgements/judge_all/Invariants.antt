use Rattle.std.proofs.Common.{reverse}
use Rattle.explore_report.proofs.Judging.{AreSoFar}
use Rattle.explore_report.proofs.judgements.judge_all.Given as goal

-- those passed were judged
abbrev pub invariant-loop-index : goal.invariant-loop-index
invariant-loop-index l = AreSoFar l.is_end l.claims l.text (reverse l.moves) l.initial.judged.items l.judged.items l.index
