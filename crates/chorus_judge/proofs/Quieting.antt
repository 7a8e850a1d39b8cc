-- A text is judged Quiet exactly where it is legal and its entries are a quiet list.
use Rattle.std.proofs.Common.{ℕ, ◌≡◌, List, [], ◌∷◌, reverse, refl, ap}
use Rattle.law_judge.specs.declared.open.OpenAt.{OpenAt}
use Rattle.law_judge.proofs.Quiet.{nothing_open_is_quiet}
use Rattle.chorus_audit.specs.declared.judging.Audit.TheVariants.{Legal, Wrong}
use Rattle.chorus_judge.specs.declared.judgement.Judgement.TheVariants.{Quiet}
use Rattle.chorus_judge.specs.declared.judgement.Judgement.TheVariants as judgements
use Rattle.chorus_judge.specs.Judgements.{judgement_of, QuietIsQuiet}

none-of : (n : ℕ) (opens : List OpenAt) → judgement_of (Legal n) opens ≡ Quiet → opens ≡ []
none-of n [] h = refl
none-of n (o ∷ opens) h = absurd (open-quiet h)
  where
    open-quiet : judgements.Open ≡ Quiet → ⊥
    open-quiet e = cc

wrong-quiet : judgements.Wrong ≡ Quiet → ⊥
wrong-quiet e = cc

wrong-legal : (line rule n : ℕ) → Wrong line rule ≡ Legal n → ⊥
wrong-legal line rule n e = cc

pub quiet_is_quiet : QuietIsQuiet
quiet_is_quiet l text (Legal n) es shape read =
    let law = nothing_open_is_quiet l (reverse es) shape read.0.legal in
    (λ h. ((n, refl), law.0 (none-of n _ h)), λ k. ap (judgement_of (Legal n)) (law.1 k.1))
quiet_is_quiet l text (Wrong line rule) es shape read = (
  λ h. absurd (wrong-quiet h),
  λ k. absurd (wrong-legal line rule k.0.0 k.0.1),
)
