-- A table after one row is put.
use Rattle.std.proofs.Common.{◌≡◌, Bool, true, false, cond, Option, Some, refl, sym, ◌∙◌, ap}
use Rattle.std.specs.Prelude.{unwrap_or}

module _ {K V : Type 0} (same : K → K → Bool) (is : (k q : K) → same k q ≡ true → k ≡ q) (d : V) (f : K → V → V) where
  at_key : (old : K → Option V) (k : K) (row : V) (q : K) (b : Bool) → same k q ≡ b → row ≡ f k (unwrap_or (old k) d) → (same k q ≡ false → (v : V) → f q v ≡ v) → unwrap_or (cond b (Some row) (old q)) d ≡ f q (unwrap_or (old q) d)
  at_key old k row q true e h a = h ∙ ap (λ u. f u (unwrap_or (old u) d)) (is k q e)
  at_key old k row q false e h a = sym (a e (unwrap_or (old q) d))

  -- the row of the key k is what f makes of it, and f leaves the others
  pub put_row : (old new : K → Option V) (k : K) (row : V) → ((q : K) → new q ≡ cond (same k q) (Some row) (old q)) → row ≡ f k (unwrap_or (old k) d) → ((q : K) → same k q ≡ false → (v : V) → f q v ≡ v) → (q : K) → unwrap_or (new q) d ≡ f q (unwrap_or (old q) d)
  put_row old new k row h e a q = ap (λ o. unwrap_or o d) (h q) ∙ at_key old k row q (same k q) refl e (a q)
