-- Where a check ends with all claims holding, each is so of every replay.
-- c is a scenario, ks are claims, vs is what is said of them, n the number of the first.
use Rattle.std.proofs.Common.{ℕ, zero, suc, ◌≡◌, ◌+◌, ◌<◌, Bool, true, false, cond, not, List, [], ◌∷◌, length, get_or, Option, Some, None, slice_get, refl, sym, ◌∙◌, ap, arith}
use Rattle.std.proofs.lemmas.Bool.{false≢true}
use Rattle.chorus_claims.specs.Pieces.{Claim}
use Rattle.chorus_scene.specs.Scene.{Scene}
use Rattle.chorus_explore.specs.Checked as verdicts
use Rattle.chorus_explore.specs.Checked.{Judged, Verdict, verdicts_of}
use Rattle.chorus_explore.specs.Shown.{ReplaysAreWhole}
use Rattle.chorus_explore.proofs.Deciding.{met-along}
use Rattle.chorus_check.specs.declared.checked.Checked.TheVariants.{Holds}
use Rattle.chorus_check.specs.Kept.{HoldingClaimsAreMet, IsShownPossible}
use Rattle.chorus_check.specs.Words.{checked_by, claim_fails, claims_of, first_failed, first_open, is_open}

none-failed : (n : ℕ) (ks : List Claim) (vs : List Verdict) → first_failed n ks vs ≡ None → (i : ℕ) (k : Claim) (v : Verdict) → slice_get ks i ≡ Some k → slice_get vs i ≡ Some v → claim_fails k v ≡ false
none-failed n [] vs none i k v a b = absurd (cc)
none-failed n (x ∷ ks) [] none i k v a b = absurd (cc)
none-failed n (x ∷ ks) (y ∷ vs) none i k v a b = by (claim_fails x y) refl none (none-failed (n + 1) ks vs) i a b
  where
    by : (fails : Bool) → claim_fails x y ≡ fails → cond fails (Some n) (first_failed (n + 1) ks vs) ≡ None
        → (first_failed (n + 1) ks vs ≡ None → (m : ℕ) (o : Claim) (w : Verdict) → slice_get ks m ≡ Some o → slice_get vs m ≡ Some w → claim_fails o w ≡ false)
        → (m : ℕ) → slice_get (x ∷ ks) m ≡ Some k → slice_get (y ∷ vs) m ≡ Some v → claim_fails k v ≡ false
    by true e f ih m p q = absurd (cc)
    by false e f ih zero p q = (let same : x ≡ k = cc in let other : y ≡ v = cc in ap (λ (z : Claim). claim_fails z v) (sym same) ∙ ap (claim_fails x) (sym other) ∙ e)
    by false e f ih (suc m) p q = ih f m k v p q

none-open : (n : ℕ) (vs : List Verdict) → first_open n vs ≡ None → (i : ℕ) (v : Verdict) → slice_get vs i ≡ Some v → is_open v ≡ false
none-open n [] none i v a = absurd (cc)
none-open n (y ∷ vs) none i v a = by (is_open y) refl none (none-open (n + 1) vs) i a
  where
    by : (opens : Bool) → is_open y ≡ opens → cond opens (Some n) (first_open (n + 1) vs) ≡ None
        → (first_open (n + 1) vs ≡ None → (m : ℕ) (w : Verdict) → slice_get vs m ≡ Some w → is_open w ≡ false)
        → (m : ℕ) → slice_get (y ∷ vs) m ≡ Some v → is_open v ≡ false
    by true e f ih m p = absurd (cc)
    by false e f ih zero p = (let same : y ≡ v = cc in ap is_open (sym same) ∙ e)
    by false e f ih (suc m) p = ih f m v p

none-by : (failed undecided : Option ℕ) → Holds ≡ checked_by failed undecided → (failed ≡ None) × (undecided ≡ None)
none-by (Some n) undecided e = absurd (cc)
none-by None (Some n) e = absurd (cc)
none-by None None e = (refl, refl)

has-some : {X : Type 0} (xs : List X) (i : ℕ) → i < length xs → (x : X) × (slice_get xs i ≡ Some x)
has-some [] i lt = absurd (omega (arith, lt))
has-some (x ∷ xs) zero lt = (x, refl)
has-some (x ∷ xs) (suc i) lt = has-some xs i (omega (arith, lt))

get-at : {X : Type 0} (xs : List X) (i : ℕ) (d : X) → i < length xs → slice_get xs i ≡ Some (get_or xs i d)
get-at [] i d lt = absurd (omega (arith, lt))
get-at (x ∷ xs) zero d lt = refl
get-at (x ∷ xs) (suc i) d lt = get-at xs i d (omega (arith, lt))

module _ (c : Scene) where
  holds-so : (k : Claim) (v : Verdict) → claim_fails k v ≡ false → is_open v ≡ false → Judged c k v → (k.possible ≡ false → Judged c k verdicts.Holds) × IsShownPossible c k
  holds-so k verdicts.Holds kept shut is = (λ p. is, λ p. absurd (false≢true (sym kept ∙ p)))
  holds-so k (verdicts.Fails ms) kept shut is = (λ p. absurd (false≢true (sym kept ∙ ap not p)), λ p. (ms, (is.0, is.1)))
  holds-so k (verdicts.Open d) kept shut is = absurd (false≢true (sym shut))

pub holding-claims-are-met : ReplaysAreWhole → HoldingClaimsAreMet
holding-claims-are-met replays c most text is shape = (
  λ i d lt. (each i d lt).1,
  λ steps status closed keeps played unworn.
      (let one = replays c steps status closed shape keeps played unworn in
      (one.0, (one.1.1, λ i d lt p. met-along c (get_or (claims_of c) i d) one.0 ((each i d lt).0 p) one.1.0))),
)
  where
    each : (i : ℕ) (d : Claim) → i < length (claims_of c) → ((get_or (claims_of c) i d).possible ≡ false → Judged c (get_or (claims_of c) i d) verdicts.Holds) × IsShownPossible c (get_or (claims_of c) i d)
    each i d lt =
        let ks = claims_of c in
        let ws = verdicts_of is.explored in
        let k = get_or ks i d in
        let at = get-at ks i d lt in
        let v = has-some ws i (let m = is.checks.many in omega (arith, lt, m)) in
        let none = none-by (first_failed 1 ks ws) (first_open 1 ws) is.comes in
        holds-so c k v.0 (none-failed 1 ks ws none.0 i k v.0 at v.1) (none-open 1 ws none.1 i v.0 v.1) (is.checks.judged i k v.0 at v.1)
