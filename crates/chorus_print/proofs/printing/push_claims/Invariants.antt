use Rattle.std.proofs.Common.{◌≡◌, ◌++◌, take, map}
use Rattle.chorus_scene.specs.Print.{all_ended, claim_text}
use Rattle.chorus_print.proofs.printing.push_claims.Given as goal

abbrev pub invariant-loop-claim : goal.invariant-loop-claim
invariant-loop-claim l = l.out.items ≡ l.fn.out.items ++ all_ended (map claim_text (take l.claim-index l.claims))
