use Rattle.std.proofs.Common.{◌≡◌, true, take}
use Rattle.std.specs.List.{All}
use Rattle.explore_report.specs.declared.judgements.Judgement.{Judgement}
use Rattle.explore_report.specs.Judgements.{has_failed}
use Rattle.explore_report.proofs.judgements.have_all_failed.Given as goal

-- those passed have failed
abbrev pub invariant-loop-judgement : goal.invariant-loop-judgement
invariant-loop-judgement l = All (λ (j : Judgement). has_failed j ≡ true) (take l.judgement-index l.judged)
