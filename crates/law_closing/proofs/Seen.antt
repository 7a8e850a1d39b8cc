-- Where all was seen that a pass and those in its notes made, the journals at the close are those that were seen.
use Rattle.std.proofs.Common.{ℕ, zero, suc, ◌≡◌, ◌+◌, ◌<◌, eqb, cond, List, [], ◌∷◌, ◌++◌, length, refl, sym, ◌∙◌, ap, subst, arith}
use Rattle.std.specs.List.{All, Contains}
use Rattle.std.proofs.lemmas.List.{append-nil, length-append, nil_from_length}
use Rattle.std.proofs.lemmas.List.Elements.{All-nil, All-cons, All-head, All-tail, All-contains, filter-append}
use Rattle.std.proofs.lemmas.Bool.{eq-eqb}
use Rattle.chorus_turn.specs.declared.knowledge.Remarked.{Remarked}
use Rattle.chorus_turn.specs.declared.knowledge.Note.{Note}
use Rattle.chorus_turn.specs.declared.knowledge.Knowledge.{Knowledge}
use Rattle.chorus_turn.specs.Journals.{by_seat, at_place}
use Rattle.chorus_turn.specs.Knowing.{seen_at, seats_of, Shows}
use Rattle.law_closing.specs.Closing.{IsPlace, Tells}
use Rattle.law_closing.specs.Seen.{HasSeen}

no-more : {X : Type 0} (xs ys : List X) → xs ++ ys ≡ xs → ys ≡ []
no-more xs ys h = let same = ap length h in let both = length-append xs ys in nil_from_length ys (omega (arith, same, both))

module _ {R : Type 0} where
  all-behind : (P : Remarked R → Type 0) (xs ys : List (Remarked R)) → All P (xs ++ ys) → All P ys
  all-behind P [] ys h = h
  all-behind P (x ∷ xs) ys h = all-behind P xs ys (All-tail P x (xs ++ ys) h)

  -- of what comes behind what was seen there is none by this seat
  none-by : (q : ℕ) (seen rest log : List (Remarked R)) (mine : List (Remarked R)) → log ≡ seen ++ rest → by_seat q log ≡ mine → by_seat q seen ≡ mine → by_seat q rest ≡ []
  none-by q seen rest log mine is all so_far =
      no-more (by_seat q seen) (by_seat q rest) (sym (filter-append (λ (r : Remarked R). eqb r.entry.seat q) seen rest) ∙ ap (by_seat q) (sym is) ∙ all ∙ sym so_far)

  none-noted : (p : ℕ) (seen rest log : List (Remarked R)) (notes : List (Note R)) → log ≡ seen ++ rest → All (λ (n : Note R). by_seat n.seat log ≡ at_place p n.mine) notes → All (λ (n : Note R). by_seat n.seat seen ≡ at_place p n.mine) notes → All (λ (q : ℕ). by_seat q rest ≡ []) (seats_of notes)
  none-noted p seen rest log [] is all so_far = All-nil (λ (q : ℕ). by_seat q rest ≡ [])
  none-noted p seen rest log (n ∷ ns) is all so_far =
      let A : Note R → Type 0 = λ n. by_seat n.seat log ≡ at_place p n.mine in
      let B : Note R → Type 0 = λ n. by_seat n.seat seen ≡ at_place p n.mine in
      All-cons (λ (q : ℕ). by_seat q rest ≡ []) n.seat (seats_of ns) (none-by n.seat seen rest log (at_place p n.mine) is (All-head A n ns all) (All-head B n ns so_far))
      (none-noted p seen rest log ns is (All-tail A n ns all) (All-tail B n ns so_far))

  none-at-all : (rest : List (Remarked R)) (made : ℕ) (seats : List ℕ) → All (λ (r : Remarked R). r.entry.seat < made) rest → ((q : ℕ) → q < made → Contains seats q) → All (λ (q : ℕ). by_seat q rest ≡ []) seats → rest ≡ []
  none-at-all [] made seats below every none = refl
  none-at-all (r ∷ rs) made seats below every none =
      let q = r.entry.seat in
      let lt = All-head (λ (r : Remarked R). r.entry.seat < made) r rs below in
      let empty : by_seat q (r ∷ rs) ≡ [] = All-contains (λ (q : ℕ). by_seat q (r ∷ rs) ≡ []) seats q none (every q lt) in
      let there : by_seat q (r ∷ rs) ≡ r ∷ by_seat q rs = ap (λ b. cond b (r ∷ by_seat q rs) (by_seat q rs)) (eq-eqb q q refl) in
      let bad : r ∷ by_seat q rs ≡ [] = sym there ∙ empty in
      absurd (let n : length (r ∷ by_seat q rs) ≡ 0 = ap length bad in omega (arith, n))

  abbrev Below : ℕ → Remarked R → Type 0
  Below made r = r.entry.seat < made

  seen-all : (log : ℕ → List (Remarked R)) (v : Knowledge R) (p : ℕ) → Shows p v (log p) → Shows p v (seen_at p v) → All (Below v.made) (log p)
      → ((q : ℕ) → q < v.made → Contains (v.seat ∷ seats_of v.notes) q) → log p ≡ seen_at p v
  seen-all log v p now was below every =
      let seen = seen_at p v in
      let rest : List (Remarked R) = now.begins.0 in
      let is : log p ≡ seen ++ rest = now.begins.1 in
      let later = all-behind (Below v.made) seen rest (subst (All (Below v.made)) is below) in
      let own = none-by v.seat seen rest (log p) (at_place p v.mine) is now.own was.own in
      let others = none-noted p seen rest (log p) v.notes is now.noted was.noted in
      let none = none-at-all rest v.made (v.seat ∷ seats_of v.notes) later every (All-cons (λ (q : ℕ). by_seat q rest ≡ []) v.seat (seats_of v.notes) own others) in
      is ∙ ap (λ (xs : List (Remarked R)). seen ++ xs) none ∙ append-nil seen

  pub all-seen : (count : ℕ) (log : ℕ → List (Remarked R)) (v : Knowledge R) → Tells count log v → HasSeen count v → (p : ℕ) → IsPlace count p → log p ≡ seen_at p v
  all-seen count log v t h zero is = absurd (let low = is.0 in omega (arith, low))
  all-seen count log v t h (suc k) is =
      let e : k + 1 ≡ suc k = omega arith in
      let most = is.1 in
      let lt : k < count = omega (arith, most) in
      seen-all log v (suc k) (subst (λ p. Shows p v (log p)) e (t.shows k lt)) (h (suc k) is)
      (subst (λ p. All (Below v.made) (log p)) e (t.seats k lt)) t.every
