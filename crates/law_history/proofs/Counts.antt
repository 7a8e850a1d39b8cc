-- Sums over places.
use Rattle.std.proofs.Common.{ℕ, zero, suc, ◌≡◌, ◌<◌, ◌≤◌, ◌+◌, Bool, true, false, cond, List, [], ◌∷◌, ◌++◌, length, eqb, refl, sym, ◌∙◌, ap, subst, inl, inr, arith}
use Rattle.std.specs.List.{All}
use Rattle.std.proofs.lemmas.Bool.{eq-eqb, ne_eqb, cases_eq}
use Rattle.std.proofs.lemmas.List.{length-append, nil_from_length}
use Rattle.std.proofs.lemmas.List.Elements.{All-nil, All-cons, All-head, All-tail, All-append, All-weaker}
use Rattle.law_history.specs.Turns.{Input, Sent, Machine, Turn, is_at, is_by, puts_to, packet_from, put_to, got_from, before, IsInOrder}
use Rattle.law_history.specs.Network.{Network}
use Rattle.law_history.specs.Histories.{Histories}
use Rattle.law_history.specs.Counts.{total, packets_in, IsFromBelow, put_count, got_count, IsBelow, EqualCountsLeaveNothing, StandsBehindAllSeen}
use Rattle.law_history.proofs.Order.{in_order-filter, After, before_on}

total_same : (n : ℕ) (f g : ℕ → ℕ) → ((p : ℕ) → f p ≡ g p) → total n f ≡ total n g
total_same zero f g h = refl
total_same (suc n) f g h = (let ih = total_same n f g h in let one = h n in omega arith)

total_none : (n : ℕ) (f : ℕ → ℕ) → ((p : ℕ) → f p ≡ 0) → total n f ≡ 0
total_none zero f h = refl
total_none (suc n) f h = (let ih = total_none n f h in let one = h n in omega arith)

total_plus : (n : ℕ) (f g : ℕ → ℕ) → total n (λ p. f p + g p) ≡ total n f + total n g
total_plus zero f g = refl
total_plus (suc n) f g = (let ih = total_plus n f g in omega arith)

total_swap : (n m : ℕ) (h : ℕ → ℕ → ℕ) → total n (λ a. total m (λ b. h a b)) ≡ total m (λ b. total n (λ a. h a b))
total_swap zero m h = sym (total_none m (λ b. 0) (λ b. refl))
total_swap (suc n) m h =
    let ih = total_swap n m h in
    ap (λ k. k + total m (λ b. h n b)) ih ∙ sym (total_plus m (λ b. total n (λ a. h a b)) (λ b. h n b))

total_zero : (n : ℕ) (f : ℕ → ℕ) → total n f ≡ 0 → (p : ℕ) → p < n → f p ≡ 0
total_zero zero f e p lt = absurd (omega arith)
total_zero (suc n) f e p lt =
    elim (cases_eq p n) [
      | inl same ↦ (let zero_at : f n ≡ 0 = omega arith in ap f same ∙ zero_at)
      | inr differ ↦ (let before : total n f ≡ 0 = omega arith in total_zero n f before p (omega arith))
    ]

abbrev one : Bool → ℕ
one true = 1
one false = 0

total_past : (n p : ℕ) → n ≤ p → total n (λ b. one (eqb p b)) ≡ 0
total_past zero p le = refl
total_past (suc n) p le =
    let ih = total_past n p (omega arith) in
    let last : one (eqb p n) ≡ 0 = ap one (ne_eqb p n (λ e. omega arith)) in
    omega arith

-- of the numbers below n one is p
total_hit : (n p : ℕ) → p < n → total n (λ b. one (eqb p b)) ≡ 1
total_hit zero p lt = absurd (omega arith)
total_hit (suc n) p lt =
    elim (cases_eq p n) [
      | inl same ↦
          (let past = total_past n p (omega arith) in
          let last : one (eqb p n) ≡ 1 = ap one (eq-eqb p n same) in
          omega arith)
      | inr differ ↦
          (let ih = total_hit n p (omega arith) in
          let last : one (eqb p n) ≡ 0 = ap one (ne_eqb p n differ) in
          omega arith)
    ]

length_choice : {A : Type 0} → (b : Bool) (x : A) (xs : List A) → length (cond b (x ∷ xs) xs) ≡ one b + length xs
length_choice true x xs = omega arith
length_choice false x xs = omega arith

length_one : {A : Type 0} → (b : Bool) (x : A) → length (cond b (x ∷ []) []) ≡ one b
length_one true x = refl
length_one false x = refl

puts_total : {K : Type 0} (n : ℕ) (ss : List (Sent K)) → All (λ (s : Sent K). s.to < n) ss → total n (λ b. length (puts_to b ss)) ≡ length ss
puts_total n [] h = total_none n (λ b. 0) (λ b. refl)
puts_total {K} n (s ∷ ss) h =
    let Low : Sent K → Type 0 = λ s. s.to < n in
    let ih = puts_total n ss (All-tail Low s ss h) in
    let hit = total_hit n s.to (All-head Low s ss h) in
    total_same n (λ b. length (puts_to b (s ∷ ss))) (λ b. one (eqb s.to b) + length (puts_to b ss)) (λ b. length_choice (eqb s.to b) s.packet (puts_to b ss))
    ∙ total_plus n (λ b. one (eqb s.to b)) (λ b. length (puts_to b ss)) ∙ ap (λ k. k + total n (λ b. length (puts_to b ss))) hit ∙ ap (λ k. 1 + k) ih ∙ (omega arith)

takes_total : {M K : Type 0} (n : ℕ) (i : Input M K) → IsFromBelow n i → total n (λ a. length (packet_from a i)) ≡ packets_in i
takes_total n (Input.Command c) h = total_none n (λ a. 0) (λ a. refl)
takes_total {M} {K} n (Input.Packet a k) h = let i : Input M K = Input.Packet a k in total_same n (λ x. length (packet_from x i)) (λ x. one (eqb a x)) (λ x. length_one (eqb a x) k) ∙ total_hit n a h

module _ {C M K : Type 0} where
  put_total : (n : ℕ) (ts : List (Turn C M K)) → All (IsBelow n) ts → total n (λ b. length (put_to b ts)) ≡ put_count ts
  put_total n [] h = total_none n (λ b. 0) (λ b. refl)
  put_total n (t ∷ ts) h =
      let own = All-head (IsBelow n) t ts h in
      total_same n (λ b. length (put_to b (t ∷ ts))) (λ b. length (puts_to b t.puts) + length (put_to b ts)) (λ b. length-append (puts_to b t.puts) (put_to b ts))
      ∙ total_plus n (λ b. length (puts_to b t.puts)) (λ b. length (put_to b ts)) ∙ ap (λ k. k + total n (λ b. length (put_to b ts))) (puts_total n t.puts own.0)
      ∙ ap (λ k. length t.puts + k) (put_total n ts (All-tail (IsBelow n) t ts h))

  got_total : (n : ℕ) (ts : List (Turn C M K)) → All (IsBelow n) ts → total n (λ a. length (got_from a ts)) ≡ got_count ts
  got_total n [] h = total_none n (λ b. 0) (λ b. refl)
  got_total n (t ∷ ts) h =
      let own = All-head (IsBelow n) t ts h in
      total_same n (λ a. length (got_from a (t ∷ ts))) (λ a. length (packet_from a t.input) + length (got_from a ts)) (λ a. length-append (packet_from a t.input) (got_from a ts))
      ∙ total_plus n (λ a. length (packet_from a t.input)) (λ a. length (got_from a ts)) ∙ ap (λ k. k + total n (λ a. length (got_from a ts))) (takes_total n t.input own.1)
      ∙ ap (λ k. packets_in t.input + k) (got_total n ts (All-tail (IsBelow n) t ts h))

module _ (P C M K : Type 0) (m : Machine P C M K) (n : ℕ) (opening closing : Network P C K) (places seats : ℕ → List (Turn C M K)) (h : Histories m opening places seats closing) (none : (a b : ℕ) → opening.links a b ≡ []) (below : (p : ℕ) → All (IsBelow n) (places p)) where
  abbrev left : ℕ → ℕ → ℕ
  left a b = length (closing.links a b)

  -- what was put is what was taken and what is left
  put-is-got-and-left : total n (λ p. put_count (places p)) ≡ total n (λ p. got_count (places p)) + total n (λ a. total n (λ b. left a b))
  put-is-got-and-left = sym all_put ∙ split ∙ ap (λ k. k + total n (λ a. total n (λ b. left a b))) all_got
    where
      put : ℕ → ℕ → ℕ
      put a b = length (put_to b (places a))

      got : ℕ → ℕ → ℕ
      got a b = length (got_from a (places b))

      each : (a b : ℕ) → put a b ≡ got a b + left a b
      each a b =
          ap (λ ks. length (ks ++ put_to b (places a))) (sym (none a b)) ∙ ap length (h.in_order a b) ∙ length-append (got_from a (places b)) (closing.links a b)

      all_put : total n (λ a. total n (λ b. put a b)) ≡ total n (λ p. put_count (places p))
      all_put = total_same n (λ a. total n (λ b. put a b)) (λ p. put_count (places p)) (λ a. put_total n (places a) (below a))

      all_got : total n (λ a. total n (λ b. got a b)) ≡ total n (λ p. got_count (places p))
      all_got = total_swap n n got ∙ total_same n (λ b. total n (λ a. got a b)) (λ p. got_count (places p)) (λ b. got_total n (places b) (below b))

      split : total n (λ a. total n (λ b. put a b)) ≡ total n (λ a. total n (λ b. got a b)) + total n (λ a. total n (λ b. left a b))
      split =
          total_same n (λ a. total n (λ b. put a b)) (λ a. total n (λ b. got a b) + total n (λ b. left a b)) (λ a. total_same n (λ b. put a b) (λ b. got a b + left a b) (λ b. each a b) ∙ total_plus n (λ b. got a b) (λ b. left a b))
          ∙ total_plus n (λ a. total n (λ b. got a b)) (λ a. total n (λ b. left a b))

  pub no-more-got : total n (λ p. got_count (places p)) ≤ total n (λ p. put_count (places p))
  no-more-got = (let e = put-is-got-and-left in omega (arith, e))

  pub none-left : total n (λ p. put_count (places p)) ≡ total n (λ p. got_count (places p)) → (a b : ℕ) → a < n → b < n → closing.links a b ≡ []
  none-left same a b lta ltb =
      let e = put-is-got-and-left in
      let no_rest : total n (λ a. total n (λ b. left a b)) ≡ 0 = omega (arith, e, same) in
      nil_from_length (closing.links a b) (total_zero n (λ b. left a b) (total_zero n (λ a. total n (λ b. left a b)) no_rest a lta) b ltb)

pub nothing_left : (P C M K : Type 0) → EqualCountsLeaveNothing P C M K
nothing_left P C M K m n opening closing places seats h none below same = none-left P C M K m n opening closing places seats h none below same

module _ {C M K : Type 0} where
  in_the_middle : (F : Turn C M K → Type 0) (xs : List (Turn C M K)) (d : Turn C M K) (ys : List (Turn C M K)) → All F (xs ++ d ∷ ys) → F d
  in_the_middle F [] d ys h = All-head F d ys h
  in_the_middle F (x ∷ xs) d ys h = in_the_middle F xs d ys (All-tail F x (xs ++ d ∷ ys) h)

  before_it : (us : List (Turn C M K)) (d : Turn C M K) (vs : List (Turn C M K)) → IsInOrder (us ++ d ∷ vs) → All (λ (u : Turn C M K). before u d ≡ true) us
  before_it [] d vs o = All-nil (λ (u : Turn C M K). before u d ≡ true)
  before_it (u ∷ us) d vs o = All-cons (λ (u : Turn C M K). before u d ≡ true) u us (in_the_middle (After u) us d vs o.0) (before_it us d vs o.1)

  from_it : (ws : List (Turn C M K)) (d : Turn C M K) (xs : List (Turn C M K)) (e : Turn C M K) (ys : List (Turn C M K)) → IsInOrder (ws ++ d ∷ (xs ++ e ∷ ys)) → before d e ≡ true
  from_it [] d xs e ys o = in_the_middle (After d) xs e ys o.0
  from_it (w ∷ ws) d xs e ys o = from_it ws d xs e ys o.1

pub behind_all_seen : (P C M K : Type 0) → StandsBehindAllSeen P C M K
behind_all_seen P C M K m opening closing places seats turns s p q us vs ws xs ys d e at by =
    let there : IsInOrder (us ++ d ∷ vs) = subst IsInOrder (s.by_place p ∙ at) (in_order-filter (is_at p) turns s.sorted) in
    let mine : IsInOrder (ws ++ d ∷ (xs ++ e ∷ ys)) = subst IsInOrder (s.by_seat q ∙ by) (in_order-filter (is_by q) turns s.sorted) in
    let later : before d e ≡ true = from_it ws d xs e ys mine in
    All-append (λ (u : Turn C M K). before u e ≡ true) us (d ∷ [])
    (All-weaker (λ (u : Turn C M K). before u d ≡ true) (λ (u : Turn C M K). before u e ≡ true) (λ u h. before_on u d e h later) us (before_it us d vs there))
    (All-cons (λ (u : Turn C M K). before u e ≡ true) d [] later (All-nil (λ (u : Turn C M K). before u e ≡ true)))
