use Rattle.std.proofs.Common.{◌≡◌, ◌+◌, drop}
use Rattle.judge_promises.specs.Breaches.{failing}
use Rattle.judge_promises.proofs.breaking.first_failing.Given as goal

-- none of those so far fails
abbrev pub invariant-loop-i : goal.invariant-loop-i
invariant-loop-i l = failing l.rule 1 l.conditions ≡ failing l.rule (l.i + 1) (drop l.i l.conditions)
