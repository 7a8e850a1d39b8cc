-- Each step of a bell keeps its rule.
use Rattle.std.proofs.Common.{◌≡◌, ℕ, ◌+◌, true, false, [], ◌∷◌, ◌++◌, length, length-append, refl, arith}
use Rattle.crossbeam_utils.specs.Register.{Admits, Turns, TurnsAt}
use Rattle.chorus_turn.proofs.Counts.{total-set, total-push}
use Rattle.chorus_choose.specs.declared.rule.BellCounts.{BellCounts}
use Rattle.chorus_choose.specs.BellRule.{counts, Rung}

abbrev rings : BellCounts → ℕ
rings v = v.rings

abbrev waits : BellCounts → ℕ
waits v = length v.waits

pub begins : Rung false (counts 0 [] ∷ [])
begins = omega arith

pub admits : Admits Rung (counts 0 [])
admits x views h = let a = total-push rings views (counts 0 []) in let b = total-push waits views (counts 0 []) in omega arith

pub ringing : (pass : ℕ) (v : BellCounts) → Turns Rung pass v (λ _. true) (λ v x y w. w ≡ counts (v.rings + 1) v.waits)
ringing pass v x views h at = let w : BellCounts = counts (v.rings + 1) v.waits in
    let a = total-set rings views pass v w at in let b = total-set waits views pass v w at in (w, omega arith, refl)

pub waiting : (made pass : ℕ) (v : BellCounts) → TurnsAt Rung pass v true false (λ v x y w. w ≡ counts v.rings (v.waits ++ (made ∷ [])))
waiting made pass v views h at = let w : BellCounts = counts v.rings (v.waits ++ (made ∷ [])) in
    let a = total-set rings views pass v w at in let b = total-set waits views pass v w at in let n = length-append v.waits (made ∷ []) in (w, omega arith, refl)

pub ruleset bell-steps = (begins, admits, ringing, waiting)
