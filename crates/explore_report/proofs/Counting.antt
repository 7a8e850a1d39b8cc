-- Histories more, that come to one text, are counted where they come to.
use Rattle.std.proofs.Common.{ℕ, zero, suc, ltb, ◌≡◌, ◌≢◌, ◌+◌, ◌-◌, ◌^◌, ◌<◌, ◌≤◌, min, Bool, true, false, cond, List, [], ◌∷◌, ◌++◌, length, reverse, get_or, set, ◌⊎◌, inl, inr, refl, sym, ◌∙◌, ap, subst, arith}
use Rattle.std.specs.List.{All, AllPairs, Contains}
use Rattle.std.proofs.lemmas.List.{map-append, length-map, length-set, get_or-map, get_or-set_same, get_or-set_other}
use Rattle.std.proofs.lemmas.List.Elements.{at_read, All-append, All-contains, All-map, All-push, All-set, All-weaker, Contains-append_left, Contains-append_right, Contains-get_or, Contains-push}
use Rattle.std.proofs.lemmas.List.Quantifiers.{all_pairs_push}
use Rattle.std.proofs.lemmas.Bool.{cases_eq, cases_lt, ltb-true, ltb-false}
use Rattle.law_explore.specs.declared.moves.Move.{Move}
use Rattle.law_explore.specs.Explores.{Count, IsCounted, told_number}
use Rattle.explore_report.specs.declared.findings.Finding.{Finding}
use Rattle.explore_report.specs.Findings.{AreFindings, ComeTo, shorter, texts_of}

-- Counts.

told-sum : (a b n m z : ℕ) → n ≡ told_number a → m ≡ told_number b → z ≡ min (n + m) (2 ^ 64 - 1) → z ≡ told_number (a + b)
told-sum a b n m z x y e = grind (arith, x, y, e)

module _ (comes : List Move → List ℕ) (o : List ℕ) where
  count-none : (ks : List (List Move)) → All (λ (k : List Move). comes k ≢ o) ks → Count comes o ks 0
  count-none [] a = refl
  count-none (k ∷ ks) a = (a 0 k (omega arith), count-none ks (λ i d lt. a (suc i) d (omega (arith, lt))))

  count-all : (ks : List (List Move)) → All (λ (k : List Move). comes k ≡ o) ks → Count comes o ks (length ks)
  count-all [] a = refl
  count-all (k ∷ ks) a = inl (a 0 k (omega arith), count-all ks (λ i d lt. a (suc i) d (omega (arith, lt))))

  count-other : (g : List Move) (hs : List (List Move)) (n : ℕ) → comes g ≢ o → Count comes o hs n → Count comes o (g ∷ hs) n
  count-other g hs zero ne c = (ne, c)
  count-other g hs (suc n) ne c = inr (ne, c)

  count-append : (hs ks : List (List Move)) (n m : ℕ) → Count comes o hs n → Count comes o ks m → Count comes o (hs ++ ks) (n + m)
  count-append [] ks n m c d = (let e : m ≡ n + m = omega (arith, c) in subst (λ (k : ℕ). Count comes o ks k) e d)
  count-append (g ∷ hs) ks zero m c d = count-other g (hs ++ ks) (zero + m) c.0 (count-append hs ks zero m c.1 d)
  count-append (g ∷ hs) ks (suc n) m (inl c) d =
      let e : suc (n + m) ≡ suc n + m = omega arith in
      subst (λ (k : ℕ). Count comes o (g ∷ (hs ++ ks)) k) e (inl (c.0, count-append hs ks n m c.1 d))
  count-append (g ∷ hs) ks (suc n) m (inr c) d = count-other g (hs ++ ks) (suc n + m) c.0 (count-append hs ks (suc n) m c.1 d)

  counted-none : (hs : List (List Move)) → All (λ (h : List Move). comes h ≢ o) hs → IsCounted comes o hs 0
  counted-none hs none = record { number = 0; count = count-none hs none; is = refl }

  counted-all : (hs ks : List (List Move)) (n m z : ℕ) → IsCounted comes o hs n → All (λ (k : List Move). comes k ≡ o) ks → m ≡ told_number (length ks) → z ≡ min (n + m) (2 ^ 64 - 1) → IsCounted comes o (hs ++ ks) z
  counted-all hs ks n m z c all told sum = record {
    number = c.number + length ks;
    count = count-append hs ks c.number (length ks) c.count (count-all ks all);
    is = told-sum c.number (length ks) n m z c.is told sum;
  }

  counted-other : (hs ks : List (List Move)) (n : ℕ) → IsCounted comes o hs n → All (λ (k : List Move). comes k ≢ o) ks → IsCounted comes o (hs ++ ks) n
  counted-other hs ks n c none =
      let e : c.number ≡ c.number + 0 = omega arith in
      record { number = c.number + 0; count = count-append hs ks c.number 0 c.count (count-none ks none); is = c.is ∙ ap told_number e }

-- Of texts that stand once each other one differs from this one.
differs : (ts : List (List ℕ)) (i k : ℕ) (d : List ℕ) → AllPairs (λ (one other : List ℕ). one ≢ other) ts → i < length ts → k < length ts → k ≢ i → get_or ts k d ≢ get_or ts i d
differs ts i k d once li lk ne e = by (cases_lt k i)
  where
    above : (a b : ℕ) → b ≤ a → a ≢ b → b < a
    above a b le n = omega (arith, le, n)

    by : (k < i) ⊎ (i ≤ k) → ⊥
    by (inl lt) = once k i d lt li e
    by (inr le) = once i k d (above k i le ne) lk (sym e)

same-texts : (fs : List Finding) (i : ℕ) (g : Finding) → g.text.items ≡ (get_or fs i g).text.items → texts_of (set fs i g) ≡ texts_of fs
same-texts [] i g e = refl
same-texts (f ∷ fs) zero g e = ap (λ t. t ∷ texts_of fs) e
same-texts (f ∷ fs) (suc i) g e = ap (λ ts. f.text.items ∷ ts) (same-texts fs i g e)

module _ (comes : List Move → List ℕ) (hs ks : List (List Move)) (fs : List Finding) (h : List Move) (t : List ℕ) (number : ℕ) (is : ComeTo comes t h number ks) (f : AreFindings comes hs fs) where
  abbrev Shown : List (List Move) → Finding → Type 0
  Shown xs g = Contains xs (reverse g.moves.items) × (comes (reverse g.moves.items) ≡ g.text.items)

  abbrev Counted : List (List Move) → Finding → Type 0
  Counted xs g = IsCounted comes g.text.items xs g.histories

  abbrev Comes : List (List ℕ) → List Move → Type 0
  Comes ts g = Contains ts (comes g)

  shown-on : All (Shown (hs ++ ks)) fs
  shown-on = All-weaker (Shown hs) (Shown (hs ++ ks)) (λ g s. (Contains-append_left hs ks (reverse g.moves.items) s.0, s.1)) fs f.shown

  found-on : (ts : List (List ℕ)) → Contains ts t → All (Comes ts) hs → All (Comes ts) (hs ++ ks)
  found-on ts c a =
      All-append (Comes ts) hs ks a
      (All-weaker (λ (k : List Move). comes k ≡ t) (Comes ts) (λ k e. subst (Contains ts) (sym e) c) ks is.come)

  counted-on : (g : Finding) → Counted hs g → g.text.items ≢ t → Counted (hs ++ ks) g
  counted-on g c ne =
      counted-other comes g.text.items hs ks g.histories c
      (All-weaker (λ (k : List Move). comes k ≡ t) (λ (k : List Move). comes k ≢ g.text.items) (λ k e q. ne (sym q ∙ e)) ks is.come)

  abbrev NoneShorter : Finding → List Move → Type 0
  NoneShorter g k = comes k ≡ g.text.items → length (reverse g.moves.items) ≤ length k

  abbrev First : List (List Move) → Finding → Type 0
  First xs g = All (NoneShorter g) xs

  -- of another outcome none of these is shorter, since none of the new ones comes to it
  first-on : (g : Finding) → First hs g → g.text.items ≢ t → First (hs ++ ks) g
  first-on g c ne =
      All-append (NoneShorter g) hs ks c
      (All-weaker (λ (k : List Move). comes k ≡ t) (NoneShorter g) (λ k e q. absurd (ne (sym q ∙ e))) ks is.come)

  within : (k : ℕ) → k < length fs → k < length (texts_of fs)
  within k lt = (let n = length-map fs (λ (z : Finding). z.text.items) in omega (arith, n, lt))

  -- an outcome that was found
  module _ (i : ℕ) (old new : Finding) (lt : i < length fs) (at : old ≡ get_or fs i old) (text : old.text.items ≡ t) (kept : new.text.items ≡ old.text.items)
      (is-sum : new.histories ≡ min (old.histories + number) (2 ^ 64 - 1)) (shows : reverse new.moves.items ≡ shorter h (reverse old.moves.items)) where
    stands : (d : Finding) → get_or fs i d ≡ old
    stands = at_read fs (λ (z : Finding). z ≡ old) i old lt at refl

    text-at : (k : ℕ) (d : Finding) → k < length fs → get_or (texts_of fs) k t ≡ (get_or fs k d).text.items
    text-at k d l = get_or-map (λ (z : Finding). z.text.items) fs k d t l

    here : get_or (texts_of fs) i t ≡ t
    here = text-at i old lt ∙ ap (λ (z : Finding). z.text.items) (stands old) ∙ text

    texts-are : texts_of (set fs i new) ≡ texts_of fs
    texts-are = same-texts fs i new (kept ∙ ap (λ (z : Finding). z.text.items) (sym (stands new)))

    new-counted : Counted (hs ++ ks) new
    new-counted =
        subst (λ (o : List ℕ). IsCounted comes o (hs ++ ks) new.histories) (sym kept)
        (counted-all comes old.text.items hs ks old.histories number new.histories (subst (Counted hs) (stands old) (f.counted i old lt))
        (subst (λ (o : List ℕ). All (λ (k : List Move). comes k ≡ o) ks) (sym text) is.come) is.number is-sum)

    -- what it shows is one of the two, and no longer than either
    shows-either : (b : Bool) → ltb (length h) (length (reverse old.moves.items)) ≡ b → reverse new.moves.items ≡ cond b h (reverse old.moves.items)
        → Shown (hs ++ ks) new × (length (reverse new.moves.items) ≤ length h) × (length (reverse new.moves.items) ≤ length (reverse old.moves.items))
    shows-either true e is-h =
        let less = ltb-true (length h) (length (reverse old.moves.items)) e in
        let n = ap (λ (x : List Move). length x) is-h in (
          (
            subst (Contains (hs ++ ks)) (sym is-h) (Contains-append_right hs ks h is.among),
            ap comes is-h ∙ All-contains (λ (k : List Move). comes k ≡ t) ks h is.come is.among ∙ sym (kept ∙ text),
          ),
          omega (arith, n),
          omega (arith, n, less),
        )
    shows-either false e is-old =
        let more = ltb-false (length h) (length (reverse old.moves.items)) e in
        let n = ap (λ (x : List Move). length x) is-old in
        let was = subst (Shown (hs ++ ks)) (stands old) (shown-on i old lt) in (
          (subst (Contains (hs ++ ks)) (sym is-old) was.0, ap comes is-old ∙ was.1 ∙ sym kept),
          omega (arith, n, more),
          omega (arith, n),
        )

    either : Shown (hs ++ ks) new × (length (reverse new.moves.items) ≤ length h) × (length (reverse new.moves.items) ≤ length (reverse old.moves.items))
    either = shows-either (ltb (length h) (length (reverse old.moves.items))) refl shows

    new-first : First (hs ++ ks) new
    new-first =
        All-append (NoneShorter new) hs ks
        (All-weaker (NoneShorter old) (NoneShorter new) (λ k le e. (let a = le (e ∙ kept) in let b = either.2 in omega (arith, a, b))) hs (subst (First hs) (stands old) (f.first i old lt)))
        (All-weaker (λ (k : List Move). length h ≤ length k) (NoneShorter new) (λ k le e. (let b = either.1 in omega (arith, le, b))) ks is.least)

    -- what the new ones do not change of another outcome stays, and the one that was found has it
    all-set : (P Q : Finding → Type 0) → ((g : Finding) → P g → g.text.items ≢ t → Q g) → All P fs → Q new → All Q (set fs i new)
    all-set P Q on was now k d l = by (cases_eq k i)
      where
        in-fs : k < length fs
        in-fs = let n = length-set fs i new in omega (arith, l, n)

        by : (k ≡ i) ⊎ (k ≢ i) → Q (get_or (set fs i new) k d)
        by (inl e) = subst Q (sym (ap (λ (j : ℕ). get_or (set fs i new) j d) e ∙ get_or-set_same fs i new d lt)) now
        by (inr ne) =
            subst Q (sym (get_or-set_other fs i k new d ne))
            (on (get_or fs k d) (was k d in-fs)
            (λ e. differs (texts_of fs) i k t f.once (within i lt) (within k in-fs) ne (text-at k d in-fs ∙ e ∙ sym here)))

    pub counts-more : AreFindings comes (hs ++ ks) (set fs i new)
    counts-more = record {
      shown = All-set (Shown (hs ++ ks)) fs i new either.0 shown-on;
      once = subst (AllPairs (λ (one other : List ℕ). one ≢ other)) (sym texts-are) f.once;
      found = subst (λ (ts : List (List ℕ)). All (Comes ts) (hs ++ ks)) (sym texts-are)
          (found-on (texts_of fs) (subst (Contains (texts_of fs)) here (Contains-get_or (texts_of fs) i t (within i lt))) f.found);
      counted = all-set (Counted hs) (Counted (hs ++ ks)) counted-on f.counted new-counted;
      first = all-set (First hs) (First (hs ++ ks)) first-on f.first new-first;
    }

  -- a new one
  module _ (new : Finding) (none : All (λ (g : Finding). g.text.items ≢ t) fs) (text : new.text.items ≡ t) (moves : reverse new.moves.items ≡ h) (is-number : new.histories ≡ number) where
    apart : All (λ (z : List ℕ). z ≢ t) (texts_of fs)
    apart = All-map (λ (z : List ℕ). z ≢ t) (λ (z : Finding). z.text.items) fs none

    none-comes : All (λ (g : List Move). comes g ≢ t) hs
    none-comes =
        All-weaker (Comes (texts_of fs)) (λ (g : List Move). comes g ≢ t)
        (λ g c. All-contains (λ (z : List ℕ). z ≢ t) (texts_of fs) (comes g) apart c) hs f.found

    is-first : new.histories ≡ min (0 + number) (2 ^ 64 - 1)
    is-first = let e = is.number in grind (arith, e, is-number)

    this-counted : Counted (hs ++ ks) new
    this-counted =
        subst (λ (o : List ℕ). IsCounted comes o (hs ++ ks) new.histories) (sym text)
        (counted-all comes t hs ks 0 number new.histories (counted-none comes t hs none-comes) is.come is.number is-first)

    this-first : First (hs ++ ks) new
    this-first =
        All-append (NoneShorter new) hs ks
        (All-weaker (λ (g : List Move). comes g ≢ t) (NoneShorter new) (λ g ne e. absurd (ne (e ∙ text))) hs none-comes)
        (All-weaker (λ (k : List Move). length h ≤ length k) (NoneShorter new) (λ k le e. subst (λ (x : List Move). length x ≤ length k) (sym moves) le) ks is.least)

    texts-with-it : texts_of (fs ++ new ∷ []) ≡ texts_of fs ++ t ∷ []
    texts-with-it = map-append (λ (g : Finding). g.text.items) fs (new ∷ []) ∙ ap (λ z. texts_of fs ++ z ∷ []) text

    pub counts-a-new-one : AreFindings comes (hs ++ ks) (fs ++ new ∷ [])
    counts-a-new-one = record {
      shown = All-push (Shown (hs ++ ks)) fs new shown-on (
        subst (Contains (hs ++ ks)) (sym moves) (Contains-append_right hs ks h is.among),
        ap comes moves ∙ All-contains (λ (k : List Move). comes k ≡ t) ks h is.come is.among ∙ sym text,
      );
      once = subst (AllPairs (λ (one other : List ℕ). one ≢ other)) (sym texts-with-it)
          (all_pairs_push (λ (one other : List ℕ). one ≢ other) (texts_of fs) t f.once apart);
      found = subst (λ (ts : List (List ℕ)). All (Comes ts) (hs ++ ks)) (sym texts-with-it)
          (found-on (texts_of fs ++ t ∷ []) (Contains-push (texts_of fs) t)
          (All-weaker (Comes (texts_of fs)) (Comes (texts_of fs ++ t ∷ [])) (λ g c. Contains-append_left (texts_of fs) (t ∷ []) (comes g) c) hs f.found));
      counted = All-push (Counted (hs ++ ks)) fs new
          (λ k d l. counted-on (get_or fs k d) (f.counted k d l) (none k d l)) this-counted;
      first = All-push (First (hs ++ ks)) fs new
          (λ k d l. first-on (get_or fs k d) (f.first k d l) (none k d l)) this-first;
    }
