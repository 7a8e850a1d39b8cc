-- What is so of one port in every legal past, and how each change of the port keeps it: s is its spot, if it is made, ps
-- its path, k whether each place keeps it, d whether each place saw it deleted, at where each place locates it, and m the
-- number of the next port that its creation place makes.
use Rattle.std.proofs.Common.{ℕ, ◌≡◌, ◌+◌, ◌-◌, ◌<◌, ◌≤◌, inl, inr, zero, suc, Bool, true, false, ◌&&◌, ◌||◌, cond, ◌==◌, List, [], ◌∷◌, ◌++◌, length, Option, Some, None, is_some, ltb, refl, sym, ◌∙◌, ap, subst, arith}
use Rattle.std.specs.List.{slice_get}
use Rattle.std.proofs.lemmas.List.{length_push}
use Rattle.std.proofs.lemmas.Bool.{eq-eqb, ltb-true, ltb-false, cond_both, cases_eq, false≢true, true≢false}
use Rattle.std.proofs.lemmas.Option.{slice_get_within}
use Rattle.chorus_ui.specs.declared.ui.Ui.{Ui}
use Rattle.chorus_world.specs.declared.spot.Spot.{Spot}
use Rattle.chorus_world.specs.declared.spot.Spot.TheVariants.{Held, Moving, Ended}
use Rattle.chorus_world.specs.declared.place.Location.{Location}
use Rattle.chorus_world.specs.Ports.{last_of, is_held, is_moving, is_ended}
use Rattle.chorus_world.specs.Places.{farther}

abbrev pub holds : Option Spot → Bool
holds None = false
holds (Some s) = is_held s

abbrev pub moves : Option Spot → Bool
moves None = false
moves (Some s) = is_moving s

abbrev pub has_ended : Option Spot → Bool
has_ended None = false
has_ended (Some s) = is_ended s

pub record Facts (q : Ui) (s : Option Spot) (ps : List ℕ) (k d : ℕ → Bool) (at : ℕ → Location) (m : ℕ) : Type 0 where
  pub kept : (p : ℕ) → k p ≡ (holds s && (last_of 0 ps == p))
  pub ended : (p : ℕ) → d p ≡ (has_ended s && (last_of 0 ps == p))
  pub some : 0 < length ps
  pub moving : moves s ≡ true → 1 < length ps
  pub unmade : is_some s ≡ false → length ps ≡ 1
  pub located : (p : ℕ) → slice_get ps (at p).hop ≡ Some (at p).to
  -- a place that the port left knows so
  pub left : (p n : ℕ) → slice_get ps n ≡ Some p → n + 1 < length ps → n < (at p).hop
  -- and the place that holds it, or where it ended, knows it by its last hop
  pub rests : holds s || has_ended s ≡ true → (at (last_of 0 ps)).hop + 1 ≡ length ps
  pub made : is_some s ≡ true → q.number < m

pub facts_same : {q : Ui} {s t : Option Spot} {ps qs : List ℕ} {k j d c : ℕ → Bool} {at now : ℕ → Location} {m n : ℕ} → Facts q s ps k d at m → s ≡ t → ps ≡ qs → ((p : ℕ) → j p ≡ k p) → ((p : ℕ) → c p ≡ d p) → ((p : ℕ) → now p ≡ at p) → m ≤ n → Facts q t qs j c now n
facts_same {q} {s} {t} {ps} {qs} {k} {j} {d} {c} {at} {now} {m} {n} f es ep ek ed ea le =
    record {
      kept = λ p. ek p ∙ (f.kept p ∙ (ap (λ x. holds x && (last_of 0 ps == p)) es ∙ ap (λ x. holds t && (last_of 0 x == p)) ep));
      ended = λ p. ed p ∙ (f.ended p ∙ (ap (λ x. has_ended x && (last_of 0 ps == p)) es ∙ ap (λ x. has_ended t && (last_of 0 x == p)) ep));
      some = subst (λ x. 0 < length x) ep f.some;
      moving = λ h. subst (λ x. 1 < length x) ep (f.moving (ap moves es ∙ h));
      unmade = λ h. subst (λ x. length x ≡ 1) ep (f.unmade (ap is_some es ∙ h));
      located = λ p. cc (f.located p, ep, ea p);
      left = λ p i x y. subst (λ z. i < z.hop) (sym (ea p)) (f.left p i (ap (λ z. slice_get z i) ep ∙ x) (subst (λ z. i + 1 < length z) (sym ep) y));
      rests = λ h. ap (λ z. z.hop + 1) (ea (last_of 0 qs)) ∙ (ap (λ z. (at (last_of 0 z)).hop + 1) (sym ep) ∙ (f.rests (ap (λ z. holds z || has_ended z) es ∙ h) ∙ ap (λ z. length z) ep));
      made = λ h. let lt : q.number < m = f.made (ap is_some es ∙ h) in omega arith;
    }

-- the last place of a path has the last hop
pub at_last : (a : ℕ) (ps : List ℕ) (n : ℕ) → length ps ≡ n + 1 → slice_get ps n ≡ Some (last_of a ps)
at_last a [] n e = absurd (let h : 0 ≡ n + 1 = e in omega arith)
at_last a (p ∷ []) zero e = refl
at_last a (p ∷ []) (suc n) e = absurd (let h : 1 ≡ suc n + 1 = e in omega arith)
at_last a (p ∷ r ∷ ps) zero e = absurd (let h : suc (suc (length ps)) ≡ 1 = e in omega arith)
at_last a (p ∷ r ∷ ps) (suc n) e =
    at_last p (r ∷ ps) n (let h : suc (suc (length ps)) ≡ suc n + 1 = e in let g : suc (length ps) ≡ n + 1 = omega arith in g)

pub get_push_at : (xs : List ℕ) (x k : ℕ) → k ≡ length xs → slice_get (xs ++ x ∷ []) k ≡ Some x
get_push_at [] x zero h = refl
get_push_at [] x (suc k) h = absurd (let e : suc k ≡ 0 = h in omega arith)
get_push_at (y ∷ xs) x zero h = absurd (let e : 0 ≡ suc (length xs) = h in omega arith)
get_push_at (y ∷ xs) x (suc k) h = get_push_at xs x k (let e : suc k ≡ suc (length xs) = h in let g : k ≡ length xs = omega arith in g)

pub get_push_before : (xs : List ℕ) (x k : ℕ) → k < length xs → slice_get (xs ++ x ∷ []) k ≡ slice_get xs k
get_push_before [] x k h = absurd (let e : k < 0 = h in omega arith)
get_push_before (y ∷ xs) x zero h = refl
get_push_before (y ∷ xs) x (suc k) h = get_push_before xs x k (let e : suc k < suc (length xs) = h in let g : k < length xs = omega arith in g)

-- what a path has, it has with one more place
pub known_push : (ps : List ℕ) (to n p : ℕ) → slice_get ps n ≡ Some p → slice_get (ps ++ to ∷ []) n ≡ Some p
known_push ps to n p h = get_push_before ps to n (slice_get_within ps n p h) ∙ h

-- of two known locations the farther is known, and no less far than either
farther_known : (ps : List ℕ) (b : Bool) (x y : Location) → slice_get ps x.hop ≡ Some x.to → slice_get ps y.hop ≡ Some y.to → slice_get ps (cond b (farther x (Some y)) x).hop ≡ Some (cond b (farther x (Some y)) x).to
farther_known ps b x y g h =
    cond_both b (farther x (Some y)) x (λ z. slice_get ps z.hop ≡ Some z.to)
    (λ _. cond_both (ltb x.hop y.hop) y x (λ z. slice_get ps z.hop ≡ Some z.to) (λ _. h) (λ _. g))
    (λ _. g)

farther_far : (b : Bool) (x y : Location) → x.hop ≤ (cond b (farther x (Some y)) x).hop
farther_far b x y =
    cond_both b (farther x (Some y)) x (λ z. x.hop ≤ z.hop)
    (λ _. cond_both (ltb x.hop y.hop) y x (λ z. x.hop ≤ z.hop) (λ e. let lt = ltb-true x.hop y.hop e in omega arith) (λ _. omega arith))
    (λ _. omega arith)

farther_new : (x y : Location) → y.hop ≤ (farther x (Some y)).hop
farther_new x y =
    cond_both (ltb x.hop y.hop) y x (λ z. y.hop ≤ z.hop) (λ _. omega arith) (λ e. ltb-false x.hop y.hop e)

-- the place from which the port departs learns where to; each other one that it left knew so before
left_depart : (ps : List ℕ) (p to r i : ℕ) (b : Bool) (x : Location) → slice_get ps (length ps - 1) ≡ Some p → 0 < length ps → (slice_get ps i ≡ Some r → i + 1 < length ps → i < x.hop) → slice_get (ps ++ to ∷ []) i ≡ Some r → i + 1 < length ps + 1 → (p ≡ r → b ≡ true) → i < (cond b (farther x (Some (record { to = to; hop = length ps }))) x).hop
left_depart ps p to r i b x last pos old at lt same =
    let y : Location = record { to = to; hop = length ps } in
    let was : slice_get ps i ≡ Some r = sym (get_push_before ps to i (omega arith)) ∙ at in
    let far = farther_far b x y in
    elim (cases_eq i (length ps - 1)) [
      | inl e ↦ (
          let is_p : Some p ≡ Some r = sym last ∙ (ap (λ n. slice_get ps n) (sym e) ∙ was) in
          let t : b ≡ true = same (cc) in
          let n : length ps ≤ (farther x (Some y)).hop = farther_new x y in
          subst (λ c. i < (cond c (farther x (Some y)) x).hop) (sym t) (omega arith))
      | inr ne ↦ (let less : i < x.hop = old was (omega arith) in omega arith)
    ]

-- what is known by the last hop stays known by it
within_path : (ps : List ℕ) (x : Location) → slice_get ps x.hop ≡ Some x.to → x.hop < length ps
within_path ps x h = slice_get_within ps x.hop x.to h

learns_last : (ps : List ℕ) (b : Bool) (x y : Location) → slice_get ps x.hop ≡ Some x.to → slice_get ps y.hop ≡ Some y.to → x.hop + 1 ≡ length ps → (cond b (farther x (Some y)) x).hop + 1 ≡ length ps
learns_last ps b x y g h e =
    let far = farther_far b x y in
    let lt = within_path ps (cond b (farther x (Some y)) x) (farther_known ps b x y g h) in
    omega arith

-- a place learns where the port was
pub facts_learn : {q : Ui} {s : Option Spot} {ps : List ℕ} {k d : ℕ → Bool} {at : ℕ → Location} {m : ℕ} (p : ℕ) (y : Location) → Facts q s ps k d at m → slice_get ps y.hop ≡ Some y.to → Facts q s ps k d (λ r. cond (p == r) (farther (at r) (Some y)) (at r)) m
facts_learn {q} {s} {ps} {k} {d} {at} {m} p y f h =
    record {
      kept = f.kept;
      ended = f.ended;
      some = f.some;
      moving = f.moving;
      unmade = f.unmade;
      located = λ r. farther_known ps (p == r) (at r) y (f.located r) h;
      left = λ r i x z. let lt : i < (at r).hop = f.left r i x z in let le = farther_far (p == r) (at r) y in omega arith;
      rests = λ e. learns_last ps (p == last_of 0 ps) (at (last_of 0 ps)) y (f.located (last_of 0 ps)) h (f.rests e);
      made = f.made;
    }

true_else_false : (b : Bool) → cond b true false ≡ b
true_else_false true = refl
true_else_false false = refl

false_else_same : (b : Bool) → cond b false b ≡ false
false_else_same true = refl
false_else_same false = refl

pub facts_make : {q : Ui} {ps : List ℕ} {k d : ℕ → Bool} {at : ℕ → Location} {m : ℕ} (p : ℕ) (a : Ui) (n : ℕ) → Facts q None ps k d at m → last_of 0 ps ≡ p → q.number < n → Facts q (Some (Held a)) ps (λ r. cond (p == r) true (k r)) d at n
facts_make {q} {ps} {k} {d} {at} {m} p a n f e lt =
    record {
      kept = λ r. ap (λ z. cond (p == r) true z) (f.kept r) ∙ (true_else_false (p == r) ∙ ap (λ z. z == r) (sym e));
      ended = f.ended;
      some = f.some;
      moving = λ h. absurd (false≢true h);
      unmade = λ h. absurd (true≢false h);
      located = f.located;
      left = λ r i x z. absurd (let one : length ps ≡ 1 = f.unmade refl in omega arith);
      rests = λ h.
          let one : length ps ≡ 1 = f.unmade refl in
          let within = within_path ps (at (last_of 0 ps)) (f.located (last_of 0 ps)) in
          omega arith;
      made = λ h. lt;
    }

pub facts_rehome : {q : Ui} {ps : List ℕ} {k d : ℕ → Bool} {at : ℕ → Location} {m : ℕ} (a b : Ui) → Facts q (Some (Held b)) ps k d at m → Facts q (Some (Held a)) ps k d at m
facts_rehome a b f =
    record {
      kept = f.kept;
      ended = f.ended;
      some = f.some;
      moving = λ h. absurd (false≢true h);
      unmade = λ h. absurd (true≢false h);
      located = f.located;
      left = f.left;
      rests = λ h. f.rests refl;
      made = λ h. f.made refl;
    }

pub facts_depart : {q : Ui} {ps : List ℕ} {k d : ℕ → Bool} {at : ℕ → Location} {m : ℕ} (p to : ℕ) (a b : Ui) → Facts q (Some (Held b)) ps k d at m → last_of 0 ps ≡ p → Facts q (Some (Moving a)) (ps ++ to ∷ []) (λ r. cond (p == r) false (k r)) d (λ r. cond (p == r) (farther (at r) (Some (record { to = to; hop = length ps }))) (at r)) m
facts_depart {q} {ps} {k} {d} {at} {m} p to a b f e =
    let y : Location = record { to = to; hop = length ps } in
    let pos : 0 < length ps = f.some in
    let more : length (ps ++ to ∷ []) ≡ length ps + 1 = length_push ps to in
    let last : slice_get ps (length ps - 1) ≡ Some p = at_last 0 ps (length ps - 1) (omega arith) ∙ ap (λ z. Some z) e in
    record {
      kept = λ r. ap (λ z. cond (p == r) false z) (f.kept r ∙ ap (λ z. z == r) e) ∙ false_else_same (p == r);
      ended = f.ended;
      some = omega arith;
      moving = λ h. omega arith;
      unmade = λ h. absurd (true≢false h);
      located = λ r. farther_known (ps ++ to ∷ []) (p == r) (at r) y (known_push ps to (at r).hop (at r).to (f.located r)) (get_push_at ps to (length ps) refl);
      left = λ r i x z. left_depart ps p to r i (p == r) (at r) last pos (f.left r i) x (omega arith) (eq-eqb p r);
      rests = λ h. absurd (false≢true h);
      made = λ h. f.made refl;
    }

arrives_last : (ps : List ℕ) (p hop : ℕ) (b : Bool) → b ≡ true → (x : Location) → slice_get ps x.hop ≡ Some x.to → slice_get ps hop ≡ Some p → hop ≡ length ps - 1 → 0 < length ps → (cond b (farther x (Some (record { to = p; hop = hop }))) x).hop + 1 ≡ length ps
arrives_last ps p hop false t x g h n pos = absurd (false≢true t)
arrives_last ps p hop true t x g h n pos =
    let y : Location = record { to = p; hop = hop } in
    let new : hop ≤ (farther x (Some y)).hop = farther_new x y in
    let lt = within_path ps (farther x (Some y)) (farther_known ps true x y g h) in
    omega arith

pub facts_arrive : {q : Ui} {ps : List ℕ} {k d : ℕ → Bool} {at : ℕ → Location} {m : ℕ} (p hop : ℕ) (b : Ui) → Facts q (Some (Moving b)) ps k d at m → last_of 0 ps ≡ p → hop ≡ length ps - 1 → Facts q (Some (Held b)) ps (λ r. cond (p == r) true (k r)) d (λ r. cond (p == r) (farther (at r) (Some (record { to = p; hop = hop }))) (at r)) m
facts_arrive {q} {ps} {k} {d} {at} {m} p hop b f e n =
    let y : Location = record { to = p; hop = hop } in
    let pos : 0 < length ps = f.some in
    let known : slice_get ps hop ≡ Some p = at_last 0 ps hop (omega arith) ∙ ap (λ z. Some z) e in
    let g = facts_learn p y f known in
    record {
      kept = λ r. ap (λ z. cond (p == r) true z) (f.kept r) ∙ (true_else_false (p == r) ∙ ap (λ z. z == r) (sym e));
      ended = f.ended;
      some = f.some;
      moving = λ h. absurd (false≢true h);
      unmade = λ h. absurd (true≢false h);
      located = g.located;
      left = g.left;
      rests = λ h. arrives_last ps p hop (p == last_of 0 ps) (eq-eqb p (last_of 0 ps) (sym e)) (at (last_of 0 ps)) (f.located (last_of 0 ps)) known n pos;
      made = λ h. f.made refl;
    }

pub facts_delete : {q : Ui} {ps : List ℕ} {k d : ℕ → Bool} {at : ℕ → Location} {m : ℕ} (p : ℕ) (b : Ui) → Facts q (Some (Held b)) ps k d at m → last_of 0 ps ≡ p → Facts q (Some Ended) ps (λ r. cond (p == r) false (k r)) (λ r. cond (p == r) true (d r)) at m
facts_delete {q} {ps} {k} {d} {at} {m} p b f e =
    record {
      kept = λ r. ap (λ z. cond (p == r) false z) (f.kept r ∙ ap (λ z. z == r) e) ∙ false_else_same (p == r);
      ended = λ r. ap (λ z. cond (p == r) true z) (f.ended r) ∙ (true_else_false (p == r) ∙ ap (λ z. z == r) (sym e));
      some = f.some;
      moving = λ h. absurd (false≢true h);
      unmade = λ h. absurd (true≢false h);
      located = f.located;
      left = f.left;
      rests = λ h. f.rests refl;
      made = λ h. f.made refl;
    }
