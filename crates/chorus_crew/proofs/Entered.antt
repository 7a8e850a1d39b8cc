-- Jobs are made, one after another, and retired again where there is no memory for the next.
-- n is the nucleus, a, b and c are the caller's pass at three moments.
use Rattle.std.proofs.Common.{◌≡◌, ℕ, zero, suc, ◌+◌, ◌≤◌, ◌<◌, true, take, get_or, List, [], ◌∷◌, ◌++◌, map, length, reverse, refl, sym, ap, ◌∙◌, subst, arith}
use Rattle.std.specs.List.{All}
use Rattle.std.proofs.lemmas.List.{length-reverse, length-map}
use Rattle.std.proofs.lemmas.List.Elements.{All-weaker}
use Rattle.chorus_ui.specs.declared.ui.Ui.{Ui}
use Rattle.chorus_turn.specs.Knowing.{after_draw}
use Rattle.chorus_nucleus.specs.declared.nucleus.Nucleus.{Nucleus}
use Rattle.chorus_nucleus.specs.declared.pass.Pass.{Pass}
use Rattle.chorus_nucleus.specs.Passes.{known, IsPassOf}
use Rattle.chorus_nucleus.specs.Coming.{IsKeptKeeper}
use Rattle.chorus_crew.specs.declared.job.Job.{Job}
use Rattle.chorus_crew.specs.Jobs.{IsPlain, IsEntered, AreEntered, HasDrawn}
use Rattle.chorus_crew.specs.Retiring.{TakesIn, TookAlone, IsRetired}
use Rattle.chorus_crew.proofs.Ended.{all-reverse}
use Rattle.chorus_crew.proofs.Handing.{retired, fresh-all, notes-alone, notes-count, entered-count, entered-more}

pub drawn-none : (n : Nucleus) (a : Pass) → IsPassOf n a → HasDrawn n 0 a a
drawn-none n a is = record {
  pass = is;
  knows = ap (λ (m : ℕ). record (known a) { made = m }) (let e : (known a).made ≡ (known a).made + 0 = omega arith in e);
  caller = refl;
  worn = refl;
}

pub drawn-more : (n : Nucleus) (k : ℕ) (a b c : Pass) → HasDrawn n k a b → IsKeptKeeper n b c → known c ≡ after_draw (known b) → HasDrawn n (k + 1) a c
drawn-more n k a b c d kept drawn = record {
  pass = kept.pass;
  knows = drawn ∙ ap after_draw d.knows ∙ ap (λ (m : ℕ). record (known a) { made = m }) (let e : (known a).made + k + 1 ≡ (known a).made + (k + 1) = omega arith in e);
  caller = kept.caller ∙ d.caller;
  worn = kept.worn ∙ d.worn;
}

pub drawn-same : (n : Nucleus) (k : ℕ) (a b c : Pass) → HasDrawn n k a b → IsKeptKeeper n b c → known c ≡ known b → HasDrawn n k a c
drawn-same n k a b c d kept same = record { pass = kept.pass; knows = same ∙ d.knows; caller = kept.caller ∙ d.caller; worn = kept.worn ∙ d.worn }

pub entered-plain : (n : Nucleus) (index seat : ℕ) (pairs : List (Ui × Ui)) (jobs : List Job) → AreEntered n index seat pairs jobs → All (λ (j : Job). IsPlain n j.pass) jobs
entered-plain n index seat pairs jobs e =
    All-weaker (λ (j : Job). IsPlain n j.pass × TookAlone (known j.pass).mine) (λ (j : Job). IsPlain n j.pass) (λ j p. p.0) jobs (fresh-all n index seat pairs jobs e)

-- all jobs that were made are retired
pub undone : (n : Nucleus) (k : ℕ) (pairs : List (Ui × Ui)) (jobs : List Job) (a b c : Pass) → (known a).keeper ≡ true → length pairs ≡ k → AreEntered n 0 (known a).made pairs jobs → HasDrawn n k a b
    → TakesIn n b c (map (λ (j : Job). j.pass) (reverse jobs)) → IsRetired n a c
undone n k pairs jobs a b c keeper count e d t =
    let ended : List Pass = map (λ (j : Job). j.pass) (reverse jobs) in
    let fresh = All-weaker (λ (j : Job). IsPlain n j.pass × TookAlone (known j.pass).mine) (λ (j : Job). TookAlone (known j.pass).mine) (λ j p. p.1) jobs (fresh-all n 0 (known a).made pairs jobs e) in
    retired n k a b c ended keeper d t
    (notes-count ended ∙ length-map (reverse jobs) (λ (j : Job). j.pass) ∙ length-reverse jobs ∙ entered-count n 0 (known a).made pairs jobs e ∙ count)
    (notes-alone (reverse jobs) (all-reverse (λ (j : Job). TookAlone (known j.pass).mine) jobs fresh))

take-next : {A : Type 0} (xs : List A) (k : ℕ) (d : A) → k < length xs → take (k + 1) xs ≡ take k xs ++ get_or xs k d ∷ []
take-next [] k d h = absurd (omega arith)
take-next (x ∷ xs) zero d h = refl
take-next (x ∷ xs) (suc k) d h = let e : suc k + 1 ≡ suc (k + 1) = omega arith in rw e (ap (λ zs. x ∷ zs) (take-next xs k d (omega arith)))

pub take-length : {A : Type 0} (xs : List A) (k : ℕ) → k ≤ length xs → length (take k xs) ≡ k
take-length xs zero h = refl
take-length [] (suc k) h = absurd (omega (arith, h))
take-length (x ∷ xs) (suc k) h = ap suc (take-length xs k (omega (arith, h)))

-- the job of the next pair was made
pub entered-next : (n : Nucleus) (seat at next : ℕ) (pairs : List (Ui × Ui)) (p d : Ui × Ui) (jobs : List Job) (j : Job) → at < length pairs → p ≡ get_or pairs at d → next ≡ seat + at
    → AreEntered n 0 seat (take at pairs) jobs → IsEntered n at next p j → AreEntered n 0 seat (take (at + 1) pairs) (jobs ++ j ∷ [])
entered-next n seat at next pairs p d jobs j small is number e here =
    let len = take-length pairs at (omega (arith, small)) in
    subst (λ zs. AreEntered n 0 seat zs (jobs ++ j ∷ [])) (sym (take-next pairs at d small ∙ ap (λ x. take at pairs ++ x ∷ []) (sym is)))
    (entered-more n 0 seat at next (take at pairs) p jobs j e (omega (arith, len)) (omega (arith, len, number)) here)
