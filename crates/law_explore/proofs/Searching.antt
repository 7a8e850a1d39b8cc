-- The search finds each complete history in normal form, and no other.
use Rattle.std.proofs.Common.{ℕ, zero, suc, ◌≡◌, ◌<◌, ◌+◌, Bool, true, false, cond, List, [], ◌∷◌, ◌++◌, length, ◌⊎◌, inl, inr, refl, sym, subst, arith}
use Rattle.std.specs.List.{Contains, flat_map}
use Rattle.std.proofs.lemmas.List.Elements.{Contains-append_left, Contains-append_right, Contains-append_cases}
use Rattle.std.proofs.lemmas.List.Concat.{flat_map-cons}
use Rattle.law_explore.specs.Search.{System, state_after, IsHistory, fits, IsNormal, ListsNext, IsComplete, or_deeper, ends_from, FindsAll, FindsNoOther}

module _ {X : Type 0} where
  pub none : (x : X) → Contains [] x → ⊥
  none x h = let lt = h.1 in omega (arith, lt)

  pub here : (x : X) (xs : List X) → Contains (x ∷ xs) x
  here x xs = (zero, omega arith, refl)

  pub there : (x z : X) (xs : List X) → Contains xs x → Contains (z ∷ xs) x
  there x z xs h = let lt = h.1 in (suc h.0, omega (arith, lt), h.2)

  pub which : (x z : X) (xs : List X) → Contains (z ∷ xs) x → (z ≡ x) ⊎ Contains xs x
  which x z xs (zero, lt, e) = inl e
  which x z xs (suc k, lt, e) = inr (k, omega (arith, lt), e)

module _ {X A : Type 0} (f : X → List A) where
  pub in-flat : (xs : List X) (x : X) (a : A) → Contains xs x → Contains (f x) a → Contains (flat_map f xs) a
  in-flat [] x a h k = absurd (none x h)
  in-flat (z ∷ xs) x a h k = subst (λ ys. Contains ys a) (sym (flat_map-cons f z xs)) (by (which x z xs h) (λ j. in-flat xs x a j k))
    where
      by : (z ≡ x) ⊎ Contains xs x → (Contains xs x → Contains (flat_map f xs) a) → Contains (f z ++ flat_map f xs) a
      by (inl e) ih = Contains-append_left (f z) (flat_map f xs) a (subst (λ y. Contains (f y) a) (sym e) k)
      by (inr j) ih = Contains-append_right (f z) (flat_map f xs) a (ih j)

  pub of-flat : (xs : List X) (a : A) → Contains (flat_map f xs) a → (x : X) × (Contains xs x × Contains (f x) a)
  of-flat [] a h = absurd (none a h)
  of-flat (z ∷ xs) a h = by (Contains-append_cases (f z) (flat_map f xs) a (subst (λ ys. Contains ys a) (flat_map-cons f z xs) h)) (of-flat xs a)
    where
      by : Contains (f z) a ⊎ Contains (flat_map f xs) a → (Contains (flat_map f xs) a → (x : X) × (Contains xs x × Contains (f x) a)) → (x : X) × (Contains (z ∷ xs) x × Contains (f x) a)
      by (inl k) ih = (z, (here z xs, k))
      by (inr k) ih = let r = ih k in (r.0, (there r.0 z xs r.1.0, r.1.1))

module _ {S E : Type 0} (y : System S E) (next : S → List E) (lists : ListsNext y next) where
  -- the history with these events behind it, in order
  abbrev onto : List E → List E → List E
  onto h [] = h
  onto h (e ∷ fs) = onto (e ∷ h) fs

  history-front : (h fs : List E) → IsHistory y (onto h fs) → IsHistory y h
  history-front h [] k = k
  history-front h (e ∷ fs) k = (history-front (e ∷ h) fs k).1

  normal-front : (h fs : List E) → IsNormal y (onto h fs) → IsNormal y h
  normal-front h [] k = k
  normal-front h (e ∷ fs) k = (normal-front (e ∷ h) fs k).1

  abbrev branch : ℕ → List E → E → List (List E)
  branch depth h e = cond (fits y e h) (ends_from y next depth (e ∷ h)) []

  -- what is not at its end goes on
  goes-deeper : (h es : List E) (e : E) (deeper : List (List E)) (o : List E) → Contains es e → Contains deeper o → Contains (or_deeper y next h es deeper) o
  goes-deeper h [] e deeper o c k = absurd (none e c)
  goes-deeper h (x ∷ es) e deeper o c k = k

  found-from : (depth : ℕ) (h fs : List E) → IsHistory y (onto h fs) → IsNormal y (onto h fs) → next (state_after y (onto h fs)) ≡ [] → length fs < depth
      → Contains (ends_from y next depth h) (onto h fs)
  found-from zero h fs k n end lt = absurd (omega (arith, lt))
  found-from (suc depth) h [] k n end lt =
      subst (λ (es : List E). Contains (or_deeper y next h es (flat_map (branch depth h) (next (state_after y h)))) h) (sym end) (here h [])
  found-from (suc depth) h (e ∷ fs) k n end lt =
      let s = state_after y h in
      let o = onto (e ∷ h) fs in
      let may = (history-front (e ∷ h) fs k).0 in
      let fit = (normal-front (e ∷ h) fs n).0 in
      let listed = (lists s e).0 may in
      let deep = found-from depth (e ∷ h) fs k n end (omega (arith, lt)) in
      goes-deeper h (next s) e (flat_map (branch depth h) (next s)) o listed
      (in-flat (branch depth h) (next s) e o listed
      (subst (λ (c : Bool). Contains (cond c (ends_from y next depth (e ∷ h)) []) o) (sym fit) deep))

  found-whole : (depth : ℕ) (es fs : List E) → IsHistory y (onto es fs) → IsNormal y (onto es fs) → next (state_after y (onto es fs)) ≡ [] → length es < depth → length (onto es fs) < depth
      → (length (onto es fs) < depth → length fs < depth) → Contains (ends_from y next depth []) (onto es fs)
  found-whole depth [] fs k n end le lt few = found-from depth [] fs k n end (few lt)
  found-whole depth (e ∷ es) fs k n end le lt few = found-whole depth es (e ∷ fs) k n end (omega (arith, le)) lt (λ j. shorter es (e ∷ fs) j)
    where
      count : (xs ys : List E) → length (onto xs ys) ≡ length xs + length ys
      count xs [] = omega arith
      count xs (z ∷ ys) = let is = count (z ∷ xs) ys in omega (arith, is)

      shorter : (xs ys : List E) → length (onto xs ys) < depth → length ys < depth
      shorter xs ys j = let is = count xs ys in omega (arith, is, j)

  pub finds_all : FindsAll y next
  finds_all depth es complete normal lt = found-whole depth es [] complete.0 normal complete.1 lt lt (λ j. omega (arith, lt))

  no-other : (depth : ℕ) (h o : List E) → IsHistory y h → IsNormal y h → Contains (ends_from y next depth h) o → IsComplete y next o × IsNormal y o
  no-other zero h o k n c = absurd (none o c)
  no-other (suc depth) h o k n c = by (next (state_after y h)) refl c (λ e m f. no-other depth (e ∷ h) o m f)
    where
      by : (es : List E) → next (state_after y h) ≡ es → Contains (or_deeper y next h es (flat_map (branch depth h) (next (state_after y h)))) o
          → ((e : E) → IsHistory y (e ∷ h) → IsNormal y (e ∷ h) → Contains (ends_from y next depth (e ∷ h)) o → IsComplete y next o × IsNormal y o)
          → IsComplete y next o × IsNormal y o
      by [] end d ih = one (which o h [] d)
        where
          one : (h ≡ o) ⊎ Contains [] o → IsComplete y next o × IsNormal y o
          one (inl e) = subst (λ (x : List E). IsComplete y next x × IsNormal y x) e ((k, end), n)
          one (inr j) = absurd (none o j)
      by (x ∷ es) end d ih = deep (of-flat (branch depth h) (next (state_after y h)) o d)
        where
          on : (e : E) → Contains (next (state_after y h)) e → (b : Bool) → fits y e h ≡ b → Contains (cond b (ends_from y next depth (e ∷ h)) []) o → IsComplete y next o × IsNormal y o
          on e listed true f j = ih e ((lists (state_after y h) e).1 listed, k) (f, n) j
          on e listed false f j = absurd (none o j)

          deep : (e : E) × (Contains (next (state_after y h)) e × Contains (branch depth h e) o) → IsComplete y next o × IsNormal y o
          deep r = on r.0 r.1.0 (fits y r.0 h) refl r.1.1

  pub finds_no_other : FindsNoOther y next
  finds_no_other depth o c = no-other depth [] o tt tt c
