-- The lines with numbers, part by part.
use Rattle.std.proofs.Common.{◌≡◌, ◌∙◌, ◌⊎◌, inl, inr, Result, Ok, Err, OnOk, OnErr, ℕ, [], ◌∷◌, ◌++◌, sym, ap, append_assoc, append-nil, codes, decimal}
use Rattle.chorus_show.specs.declared.status.Status.TheVariants.{Scenario, Worn}
use Rattle.chorus_show.specs.Faults.{fault_line}

pub scenario_line : (line reason : ℕ)
    → (codes "chorus: scenario line " ++ decimal line) ++ ((codes " reason " ++ decimal reason) ++ 10 ∷ []) ≡ fault_line (Scenario line reason)
scenario_line line reason = ap (λ l. codes "chorus: scenario line " ++ l)
    (ap (λ l. decimal line ++ (codes " reason " ++ (l ++ 10 ∷ []))) (sym (append-nil (decimal reason)))
    ∙ sym (append_assoc (decimal line) (codes " reason " ++ (decimal reason ++ [])) (10 ∷ [])))

pub worn_line : (clock : ℕ) → (codes "chorus: worn at clock " ++ decimal clock) ++ 10 ∷ [] ≡ fault_line (Worn clock)
worn_line clock = ap (λ l. codes "chorus: worn at clock " ++ (l ++ 10 ∷ [])) (sym (append-nil (decimal clock)))

-- written, or failed
pub one_of : {X E A B : Type 0} (r : Result X E) → OnOk r A → OnErr r B → A ⊎ B
one_of (Ok x) a b = inl a
one_of (Err e) a b = inr b
