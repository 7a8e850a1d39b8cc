use Rattle.std.proofs.Common.{◌≡◌, [], length}
use Rattle.std.specs.List.{All}
use Rattle.chorus_explore.specs.declared.race_sites.Progress.{Progress}
use Rattle.chorus_explore.proofs.race_sites.no_progress.Given as goal

-- nothing of them was performed
abbrev pub invariant-loop-script : goal.invariant-loop-script
invariant-loop-script l = (length l.scripts.items ≡ l._script-index) × All (λ (p : Progress). (p.next ≡ 0) × (p.answers.items ≡ []) × (p.posts.items ≡ [])) l.scripts.items
