use Rattle.std.proofs.Common.{◌≡◌, false, length}
use Rattle.std.specs.List.{All}
use Rattle.explore_report.specs.declared.judgements.Judgement.{Judgement}
use Rattle.explore_report.specs.Judgements.{has_failed}
use Rattle.explore_report.proofs.judgements.not_yet_judged.Given as goal

-- as many as claims were passed, and none has failed
abbrev pub invariant-loop-claim : goal.invariant-loop-claim
invariant-loop-claim l = (length l.judged.items ≡ l._claim-index) × All (λ (j : Judgement). has_failed j ≡ false) l.judged.items
