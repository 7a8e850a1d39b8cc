-- Parts that are written one behind the other.
use Rattle.std.proofs.Common.{◌≡◌, ℕ, ◌≤◌, ◌-◌, List, [], ◌∷◌, ◌++◌, length, get_or, take, drop, Option, sym, ap, ◌∙◌, subst, append_assoc, append-nil, arith}
use Rattle.std.specs.Global.{Vec}
use Rattle.std.specs.Io.KnownBytes.{Appends}
use Rattle.std.proofs.KnownBytes.{Appends-trans}
use Rattle.std.proofs.lemmas.List.{take_rest}
use Rattle.std.proofs.lemmas.List.Concat.{flat_map-append}
use Rattle.chorus_io.specs.Bytes.{AppendsPrefix}
use Rattle.chorus_io.proofs.Callers.{AppendsPrefix-first, AppendsPrefix-rest}
use Rattle.chorus_run.specs.ReportParts.Parts.{whole}

whole-append : (a b : List (Vec ℕ)) → whole (a ++ b) ≡ whole a ++ whole b
whole-append a b = flat_map-append (λ (part : Vec ℕ). part.items) a b

pub one-more : (parts rest behind sent : List (Vec ℕ)) (part : Vec ℕ) → parts ≡ sent ++ rest → rest ≡ part ∷ behind → parts ≡ (sent ++ part ∷ []) ++ behind
one-more parts rest behind sent part h e = h ∙ ap (λ r. sent ++ r) e ∙ sym (append_assoc sent (part ∷ []) behind)

pub appends-more : (old mid new : Option (List ℕ)) (sent : List (Vec ℕ)) (part : Vec ℕ) (text : List ℕ) → text ≡ part.items → Appends old mid (whole sent) → Appends mid new text → Appends old new (whole (sent ++ part ∷ []))
appends-more old mid new sent part text is before now =
    subst (Appends old new) (sym (whole-append sent (part ∷ []) ∙ ap (λ xs. whole sent ++ xs) (append-nil part.items)))
    (Appends-trans old mid new (whole sent) part.items before (subst (Appends mid new) is now))

pub stops-in : (old mid new : Option (List ℕ)) (parts rest behind sent : List (Vec ℕ)) (part : Vec ℕ) (text : List ℕ) → parts ≡ sent ++ rest → rest ≡ part ∷ behind → text ≡ part.items → Appends old mid (whole sent) → AppendsPrefix mid new text → AppendsPrefix old new (whole parts)
stops-in old mid new parts rest behind sent part text h e is before now =
    subst (AppendsPrefix old new) (sym (ap whole (h ∙ ap (λ r. sent ++ r) e) ∙ whole-append sent (part ∷ behind)))
    (AppendsPrefix-rest old mid new (whole sent) (part.items ++ whole behind) before
    (AppendsPrefix-first mid new part.items (whole behind) (subst (AppendsPrefix mid new) is now)))

-- a list that is not empty is its first element, and what stands behind it
pub first-cut : (rest : List (Vec ℕ)) (part : Vec ℕ) → 1 ≤ length rest → part ≡ get_or rest 0 part → rest ≡ part ∷ take (length rest - 1) (drop 1 rest)
first-cut rest part some is = cut rest some is ∙ ap (λ ys. part ∷ ys) (sym (take_rest rest 1))
  where
    cut : (rest : List (Vec ℕ)) → 1 ≤ length rest → part ≡ get_or rest 0 part → rest ≡ part ∷ drop 1 rest
    cut [] some is = absurd (omega (arith, some))
    cut (x ∷ rest) some is = ap (λ y. y ∷ rest) (sym is)
