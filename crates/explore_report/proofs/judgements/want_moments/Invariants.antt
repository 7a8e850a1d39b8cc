use Rattle.explore_report.proofs.Judging.{NoneWanted}
use Rattle.explore_report.proofs.judgements.want_moments.Given as goal

-- those passed are asked at no moment any more
abbrev pub invariant-loop-index : goal.invariant-loop-index
invariant-loop-index l = NoneWanted l.claims l.judged l.index
