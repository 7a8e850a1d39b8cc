-- What stands behind by clocks stands so in the merge.
use Rattle.std.proofs.Common.{ℕ, ◌≡◌, ◌<◌, ◌-◌, ◌+◌, ◌==◌, Bool, true, false, cond, List, [], ◌∷◌, ◌++◌, map, ◌⊎◌, inl, inr, refl, sym, ◌∙◌, ap, subst, append_assoc, arith}
use Rattle.std.specs.List.{All, filter}
use Rattle.std.proofs.lemmas.Bool.{eq-eqb}
use Rattle.std.proofs.lemmas.List.Elements.{All-nil, All-cons, All-head, All-tail, All-weaker}
use Rattle.chorus_merge.proofs.Places.{All-append_parts}
use Rattle.chorus_merge.proofs.Order.{comes_before-true}
use Rattle.chorus_entry.specs.declared.entry.Entry.{Entry}
use Rattle.chorus_entry.specs.Order.{comes_before, IsInOrder, is_at}
use Rattle.chorus_turn.specs.declared.knowledge.Remarked.{Remarked}
use Rattle.chorus_turn.specs.declared.knowledge.Placed.{Placed}
use Rattle.chorus_turn.specs.declared.knowledge.Note.{Note}
use Rattle.chorus_turn.specs.declared.knowledge.Knowledge.{Knowledge}
use Rattle.chorus_turn.specs.Lists.{StartsWith, list_at}
use Rattle.chorus_turn.specs.Journals.{by_seat, at_place}
use Rattle.chorus_turn.specs.Knowing.{Shows, seen_at}
use Rattle.law_closing.specs.Closing.{IsPlace, Tells}
use Rattle.law_closing.specs.Behind.{StandsBefore, StandsBehind, AllStandBehind, Follows, AllFollow, AreAtPlaces, IsMergeOf}

abbrev IsIn : {A : Type 0} → A → List A → Type 0
IsIn x [] = ⊥
IsIn x (y ∷ ys) = (x ≡ y) ⊎ IsIn x ys

all-in : {A : Type 0} (P : A → Type 0) (xs : List A) (x : A) → All P xs → IsIn x xs → P x
all-in P [] x a h = absurd h
all-in P (y ∷ ys) x a (inl e) = subst P (sym e) (All-head P y ys a)
all-in P (y ∷ ys) x a (inr h) = all-in P ys x (All-tail P y ys a) h

each-in : {A : Type 0} (xs : List A) → All (λ (x : A). IsIn x xs) xs
each-in {A} [] = All-nil (λ (x : A). IsIn x [])
each-in {A} (x ∷ xs) = All-cons (λ (y : A). IsIn y (x ∷ xs)) x xs (inl refl) (All-weaker (λ (y : A). IsIn y xs) (λ (y : A). IsIn y (x ∷ xs)) (λ y h. inr h) xs (each-in xs))

in-filter : {A : Type 0} (t : A → Bool) (x : A) (xs : List A) → IsIn x (filter t xs) → IsIn x xs
in-filter t x [] h = absurd h
in-filter t x (y ∷ ys) h = go (t y) (λ k. in-filter t x ys k) h
  where
    go : (b : Bool) → (IsIn x (filter t ys) → IsIn x ys) → IsIn x (cond b (y ∷ filter t ys) (filter t ys)) → (x ≡ y) ⊎ IsIn x ys
    go true rest (inl e) = inl e
    go true rest (inr k) = inr (rest k)
    go false rest k = inr (rest k)

in-kept : {A : Type 0} (t : A → Bool) (x : A) (xs : List A) → t x ≡ true → IsIn x xs → IsIn x (filter t xs)
in-kept t x [] e h = absurd h
in-kept t x (y ∷ ys) e (inl same) = subst (λ b. IsIn x (cond b (y ∷ filter t ys) (filter t ys))) (sym (ap t (sym same) ∙ e)) (inl same)
in-kept t x (y ∷ ys) e (inr h) = go (t y) (in-kept t x ys e h)
  where
    go : (b : Bool) → IsIn x (filter t ys) → IsIn x (cond b (y ∷ filter t ys) (filter t ys))
    go true k = inr k
    go false k = k

in-map : {A B : Type 0} (f : A → B) (x : A) (xs : List A) → IsIn x xs → IsIn (f x) (map f xs)
in-map f x [] h = absurd h
in-map f x (y ∷ ys) (inl e) = inl (ap f e)
in-map f x (y ∷ ys) (inr h) = inr (in-map f x ys h)

split : {A : Type 0} (x : A) (xs : List A) → IsIn x xs → (front rest : List A) × (xs ≡ front ++ x ∷ rest)
split x [] h = absurd h
split x (y ∷ ys) (inl e) = ([], ys, ap (λ z. z ∷ ys) (sym e))
split x (y ∷ ys) (inr h) = (let s = split x ys h in (y ∷ s.0, s.1, ap (λ zs. y ∷ zs) s.2))

-- in a list in order, of two clocks the lesser comes first
before : (e f : Entry) (xs : List Entry) → IsInOrder xs → IsIn e xs → IsIn f xs → e.clock < f.clock → StandsBefore e f xs
before e f [] order a b lt = absurd a
before e f (x ∷ xs) order (inl is) (inl same) lt = absurd (let k = ap (λ (z : Entry). z.clock) (is ∙ sym same) in omega (arith, k, lt))
before e f (x ∷ xs) order (inl is) (inr b) lt = (let s = split f xs b in let h = sym is in ([], s.0, s.1, λ i. h i ∷ s.2 i))
before e f (x ∷ xs) order (inr a) (inl same) lt =
    absurd
    (let c = all-in (λ (g : Entry). comes_before x g ≡ true) xs e order.0 a in let le = (comes_before-true x e c).0 in let k = ap (λ (z : Entry). z.clock) same in omega (arith, le, k, lt))
before e f (x ∷ xs) order (inr a) (inr b) lt = (let s = before e f xs order.1 a b lt in (x ∷ s.0, s.1, s.2, ap (λ zs. x ∷ zs) s.3))

both : {A : Type 0} (P Q : A → Type 0) (xs : List A) → All P xs → All Q xs → All (λ x. P x × Q x) xs
both P Q xs a b = λ k d lt. (a k d lt, b k d lt)

module _ {R : Type 0} (count : ℕ) (log : ℕ → List (Remarked R)) (v : Knowledge R) (merge : List Entry) (of : IsMergeOf count log merge) (t : Tells count log v) where
  shown : (p : ℕ) → IsPlace count p → Shows p v (log p)
  shown p is = subst (λ k. Shows k v (log k)) (let e : p - 1 + 1 ≡ p = omega (arith, is.0) in e) (t.shows (p - 1) (omega (arith, is.0, is.1)))

  in-merge : (p : ℕ) → IsPlace count p → (r : Remarked R) → IsIn r (log p) → IsIn r.entry merge
  in-merge p is r h = in-filter (is_at p) r.entry merge (subst (IsIn r.entry) (sym (of.parts p is)) (in-map (λ (z : Remarked R). z.entry) r (log p) h))

  -- a beginning of what is seen is in the merge
  seen-in : (p : ℕ) → IsPlace count p → (xs : List (Remarked R)) → StartsWith (seen_at p v) xs → All (λ (r : Remarked R). IsIn r.entry merge) xs
  seen-in p is xs starts =
      let s = shown p is in
      let Q : Remarked R → Type 0 = λ r. IsIn r (log p) in
      let whole : log p ≡ xs ++ (starts.0 ++ s.begins.0) = s.begins.1 ∙ ap (λ zs. zs ++ s.begins.0) starts.1 ∙ append_assoc xs starts.0 s.begins.0 in
      All-weaker Q (λ (r : Remarked R). IsIn r.entry merge) (in-merge p is) xs (All-append_parts Q xs (starts.0 ++ s.begins.0) (subst (All Q) whole (each-in (log p)))).0

  follows : (m : Placed R) → IsIn m.remarked.entry merge → StandsBehind v m → Follows count merge m
  follows m has h = λ p is.
      let e : Entry = m.remarked.entry in
      All-weaker (λ (r : Remarked R). IsIn r.entry merge × (r.entry.clock < e.clock)) (λ (r : Remarked R). StandsBefore r.entry e merge) (λ r k. before r.entry e merge of.order k.0 has k.1) (list_at p m.seen)
      (both (λ (r : Remarked R). IsIn r.entry merge) (λ (r : Remarked R). r.entry.clock < e.clock) (list_at p m.seen) (seen-in p is (list_at p m.seen) (h.front p)) (h.behind p))

  -- what was made is in the merge
  made-in : (seat : ℕ) (mine : List (Placed R)) → ((p : ℕ) → IsPlace count p → by_seat seat (log p) ≡ at_place p mine) → (m : Placed R) → IsIn m mine → IsPlace count m.place → IsIn m.remarked.entry merge
  made-in seat mine own m h is =
      let T : Placed R → Bool = λ z. z.place == m.place in
      let there : IsIn m.remarked (at_place m.place mine) = in-map (λ (z : Placed R). z.remarked) m (filter T mine) (in-kept T m mine (eq-eqb m.place m.place refl) h) in
      in-merge m.place is m.remarked (in-filter (λ (r : Remarked R). r.entry.seat == seat) m.remarked (log m.place) (subst (IsIn m.remarked) (sym (own m.place is)) there))

  mine-follow : (seat : ℕ) (mine : List (Placed R)) → ((p : ℕ) → IsPlace count p → by_seat seat (log p) ≡ at_place p mine) → AreAtPlaces count mine → All (StandsBehind v) mine → All (Follows count merge) mine
  mine-follow seat mine own places behind =
      let P : Placed R → Type 0 = λ m. IsPlace count m.place in
      All-weaker (λ (m : Placed R). IsIn m mine × (P m × StandsBehind v m)) (Follows count merge) (λ m k. follows m (made-in seat mine own m k.0 k.1.0) k.1.1) mine
      (both (λ (m : Placed R). IsIn m mine) (λ (m : Placed R). P m × StandsBehind v m) mine (each-in mine) (both P (StandsBehind v) mine places behind))

  pub merge-follows : AreAtPlaces count v.mine → All (λ (n : Note R). AreAtPlaces count n.mine) v.notes → AllStandBehind v → AllFollow count merge v
  merge-follows mine notes h =
      let N : Note R → Type 0 = λ n. AreAtPlaces count n.mine × All (StandsBehind v) n.mine in
      record {
        own = mine-follow v.seat v.mine (λ p is. (shown p is).own) mine h.own;
        noted = All-weaker (λ (n : Note R). IsIn n v.notes × N n) (λ (n : Note R). All (Follows count merge) n.mine)
            (λ n k. mine-follow n.seat n.mine (λ p is. all-in (λ (x : Note R). by_seat x.seat (log p) ≡ at_place p x.mine) v.notes n (shown p is).noted k.0) k.1.0 k.1.1) v.notes
            (both (λ (n : Note R). IsIn n v.notes) N v.notes (each-in v.notes)
            (both (λ (n : Note R). AreAtPlaces count n.mine) (λ (n : Note R). All (StandsBehind v) n.mine) v.notes notes h.noted));
      }
