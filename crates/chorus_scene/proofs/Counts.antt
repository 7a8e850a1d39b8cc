-- The commands and the steps that a reader counts for each script.
use Rattle.std.proofs.Common.{◌≡◌, ◌≢◌, ℕ, ◌+◌, ◌<◌, true, cond, eqb, List, [], ◌∷◌, ◌++◌, length, map, get_or, set, sym, ap, ◌∙◌, arith, get_or-set_same, get_or-set_other, count_by, ◌⊎◌, inl, inr}
use Rattle.std.proofs.lemmas.List.{map-set, get_or-map}
use Rattle.std.proofs.lemmas.List.Sums.{sum_by-append}
use Rattle.std.proofs.lemmas.Bool.Decides.{nat_tests}
use Rattle.chorus_scene.specs.declared.scenario.Step.{Step}
use Rattle.chorus_scene.specs.declared.scenario.Step.TheVariants as steps
use Rattle.chorus_scene.specs.Scene.{Script}
use Rattle.chorus_scene.specs.Grammar.{is_step, command_counts}

step_more : (ss : List Step) (j k : ℕ) → count_by (is_step j) (ss ++ steps.Step k ∷ []) ≡ count_by (is_step j) ss + cond (eqb k j) 1 0
step_more ss j k = sum_by-append (λ x. cond (is_step j x) 1 0) ss (steps.Step k ∷ []) ∙ omega arith

same_or_not : (a b : ℕ) → (a ≡ b) ⊎ (a ≢ b)
same_or_not a b = grind arith

pub used_on : (used : List ℕ) (ss : List Step) (n k at v : ℕ) → ((j : ℕ) → j < n → get_or used j 0 ≡ count_by (is_step (j + 1)) ss) → k ≡ at + 1 → at < n → length used ≡ n → v ≡ get_or used at 0
    → (j : ℕ) → j < n → get_or (set used at (v + 1)) j 0 ≡ count_by (is_step (j + 1)) (ss ++ steps.Step k ∷ [])
used_on used ss n k at v h e lt len is j below =
    let more = step_more ss (j + 1) k in
    elim (same_or_not j at) [
      | inl same ↦ let there : at < length used = omega arith in rw (same, get_or-set_same used at (v + 1) 0, step_more ss (at + 1) k) (let t : eqb k (at + 1) ≡ true = grind (arith, nat_tests) in rw t (omega (arith, h at lt)))
      | inr other ↦ rw (get_or-set_other used at j (v + 1) 0 other, more, h j below) (grind (arith, nat_tests))
    ]

-- one command more, of the script at this place
pub counts_on : (counts : List ℕ) (scripts : List Script) (at v : ℕ) (s t : Script) → counts ≡ command_counts scripts → at < length scripts → s ≡ get_or scripts at s → v ≡ get_or counts at v → length t.commands ≡ length s.commands + 1
    → set counts at (v + 1) ≡ command_counts (set scripts at t)
counts_on counts scripts at v s t same lt is read grown =
    let many : Script → ℕ = λ script. length script.commands in
    let v-is : v ≡ many s = read ∙ ap (λ ns. get_or ns at v) same ∙ get_or-map many scripts at s v lt ∙ ap many (sym is) in
    ap (λ ns. set ns at (v + 1)) same ∙ ap (set (map many scripts) at) (ap (λ k. k + 1) v-is ∙ sym grown) ∙ sym (map-set many scripts at t)
