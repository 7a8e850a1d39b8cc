-- No enabled port starves where ports give in turn.
-- q and r are ports, p is the priority of q, xs are enabled ports as they are looked at, fs those of the priority p.
use Rattle.std.proofs.Common.{◌≡◌, ℕ, zero, suc, ◌+◌, ◌≤◌, ◌<◌, ◌==◌, nat_le, Bool, true, false, ◌||◌, if◌then◌else◌, List, [], ◌∷◌, ◌++◌, append-nil, length, refl, sym, ◌∙◌, ap, subst, arith}
use Rattle.std.specs.List.{Contains}
use Rattle.std.proofs.lemmas.Bool.{true≢false, false≢true}
use Rattle.std.proofs.lemmas.Bool.Decides.{nat_tests}
use Rattle.chorus_ui.specs.declared.ui.Ui.{Ui}
use Rattle.chorus_ui.specs.Name.{same_ui}
use Rattle.chorus_ui.proofs.Names.{from_same_ui, same_ui-self}
use Rattle.chorus_choose.specs.declared.chooser.Enabled.{Enabled}
use Rattle.chorus_choose.specs.declared.laws.Change.{Change}
use Rattle.chorus_choose.specs.declared.laws.Change.TheVariants as changes
use Rattle.chorus_choose.specs.Looking.{enabled_limit, placed, index_of, is_enabled, without, after_enable, turned, ports_of, AreApart, IsFalling}
use Rattle.chorus_choose.specs.Changes.{moved, of_priority}
use Rattle.chorus_choose.specs.InTurn.{given_at, is_of, NoneStarves, PassesOver, IsNotLookedAt}
use Rattle.chorus_choose.proofs.Changed.{enabled-moved, moved-none, not-of, of-turned, of-without}
use Rattle.chorus_choose.proofs.Order.{apart-placed, apart-turned, apart-without, enabled-index, falling-placed, falling-turned, falling-without, of-placed}

-- Where a port stands among some.

abbrev at : Bool → Ui → List Enabled → ℕ
at b q xs = if b then 0 else index_of q xs + 1

inside : (q : Ui) (xs : List Enabled) → is_enabled q xs ≡ true → index_of q xs < length xs
inside q xs h = let e = enabled-index q xs in grind (arith, nat_tests, e, h)

push-same : (q : Ui) (xs ys : List Enabled) → is_enabled q xs ≡ true → (index_of q (xs ++ ys) ≡ index_of q xs) × (is_enabled q (xs ++ ys) ≡ true)
push-same q [] ys h = absurd (false≢true h)
push-same q (x ∷ xs) ys h = go (same_ui x.port q) h (push-same q xs ys)
  where
    go : (b : Bool) → (b || is_enabled q xs) ≡ true → (is_enabled q xs ≡ true → (index_of q (xs ++ ys) ≡ index_of q xs) × (is_enabled q (xs ++ ys) ≡ true))
        → (at b q (xs ++ ys) ≡ at b q xs) × ((b || is_enabled q (xs ++ ys)) ≡ true)
    go true k more = (refl, refl)
    go false k more = let two = more k in (ap (λ n. n + 1) two.0, two.1)

without-nearer : (q r : Ui) (xs : List Enabled) → same_ui r q ≡ false → is_enabled q xs ≡ true → (index_of q (without r xs) ≤ index_of q xs) × (is_enabled q (without r xs) ≡ true)
without-nearer q r [] other h = absurd (false≢true h)
without-nearer q r (x ∷ xs) other h = go (same_ui x.port r) (same_ui x.port q) refl refl h (without-nearer q r xs other)
  where
    go : (b c : Bool) → same_ui x.port r ≡ b → same_ui x.port q ≡ c → (c || is_enabled q xs) ≡ true
        → (is_enabled q xs ≡ true → (index_of q (without r xs) ≤ index_of q xs) × (is_enabled q (without r xs) ≡ true))
        → (index_of q (if b then xs else x ∷ without r xs) ≤ at c q xs) × (is_enabled q (if b then xs else x ∷ without r xs) ≡ true)
    go true true t u k more = absurd (true≢false (sym u ∙ ap (λ (z : Ui). same_ui z q) (from_same_ui x.port r t) ∙ other))
    go true false t u k more = (omega arith, k)
    go false true t u k more =
        (subst (λ c. at c q (without r xs) ≤ 0) (sym u) (omega arith), subst (λ c. (c || is_enabled q (without r xs)) ≡ true) (sym u) refl)
    go false false t u k more =
        let two = more k in
        (subst (λ c. at c q (without r xs) ≤ index_of q xs + 1) (sym u) (let le = two.0 in omega (arith, le)), subst (λ c. (c || is_enabled q (without r xs)) ≡ true) (sym u) two.1)

-- one that stands before it goes behind it
moved-nearer : (q r : Ui) (xs : List Enabled) → index_of r xs < index_of q xs → is_enabled q xs ≡ true → index_of q (moved r xs) + 1 ≡ index_of q xs
moved-nearer q r [] lt h = absurd (false≢true h)
moved-nearer q r (x ∷ xs) lt h = go (same_ui x.port r) (same_ui x.port q) refl lt h (moved-nearer q r xs)
  where
    go : (b c : Bool) → same_ui x.port q ≡ c → at b r xs < at c q xs → (c || is_enabled q xs) ≡ true
        → (index_of r xs < index_of q xs → is_enabled q xs ≡ true → index_of q (moved r xs) + 1 ≡ index_of q xs)
        → index_of q (if b then xs ++ x ∷ [] else x ∷ moved r xs) + 1 ≡ at c q xs
    go b true u k there more = absurd (omega (arith, k))
    go true false u k there more = ap (λ n. n + 1) (push-same q xs (x ∷ []) there).0
    go false false u k there more =
        let e = more (omega (arith, k)) there in
        subst (λ c. at c q (moved r xs) + 1 ≡ index_of q xs + 1) (sym u) (ap (λ n. n + 1) e)

-- A port that gave, and one that stands behind it.

named-there : (q : Ui) (xs : List Enabled) → Contains (ports_of xs) q → is_enabled q xs ≡ true
named-there q [] (k, lt, is) = absurd (omega (arith, lt))
named-there q (x ∷ xs) (zero, lt, is) = subst (λ (z : Ui). (same_ui z q || is_enabled q xs) ≡ true) (sym is) (subst (λ b. (b || is_enabled q xs) ≡ true) (sym (same_ui-self q)) refl)
named-there q (x ∷ xs) (suc k, lt, is) = or-behind (same_ui x.port q) (is_enabled q xs) (named-there q xs (k, omega (arith, lt), is))
  where
    or-behind : (b c : Bool) → c ≡ true → (b || c) ≡ true
    or-behind true c h = refl
    or-behind false c h = h

in-behind : (q r : Ui) (front rest : List Ui) → Contains rest q → Contains (front ++ r ∷ rest) q
in-behind q r [] rest (k, lt, is) = (suc k, omega (arith, lt), is)
in-behind q r (f ∷ front) rest c = let m = in-behind q r front rest c in (suc m.0, (let lt = m.1 in omega (arith, lt)), m.2)

r-there : (r : Ui) (front rest : List Ui) → Contains (front ++ r ∷ rest) r
r-there r [] rest = (0, omega arith, refl)
r-there r (f ∷ front) rest = let m = r-there r front rest in (suc m.0, (let lt = m.1 in omega (arith, lt)), m.2)

-- x is not one that is enabled behind it
not-first : (z : Ui) (x : Enabled) (xs : List Enabled) → AreApart (x ∷ xs) → is_enabled z xs ≡ true → same_ui x.port z ≡ false
not-first z x xs a there = go (same_ui x.port z) refl
  where
    go : (b : Bool) → same_ui x.port z ≡ b → b ≡ false
    go false t = refl
    go true t = absurd (true≢false (sym there ∙ ap (λ (y : Ui). is_enabled y xs) (sym (from_same_ui x.port z t)) ∙ a.0))

stands-before : (q r : Ui) (xs : List Enabled) (front rest : List Ui) → AreApart xs → ports_of xs ≡ front ++ r ∷ rest → Contains rest q → index_of r xs < index_of q xs
stands-before q r [] [] rest a split there = absurd (cc)
stands-before q r [] (f ∷ front) rest a split there = absurd (cc)
stands-before q r (x ∷ xs) [] rest a split there =
    let first : x.port ≡ r = cc in
    let more : ports_of xs ≡ rest = cc in
    let apart = not-first q x xs a (named-there q xs (subst (λ zs. Contains zs q) (sym more) there)) in
    subst (λ b. at b r xs < at (same_ui x.port q) q xs) (sym (ap (λ (z : Ui). same_ui z r) first ∙ same_ui-self r))
    (subst (λ c. 0 < at c q xs) (sym apart) (omega arith))
stands-before q r (x ∷ xs) (f ∷ front) rest a split there =
    let more : ports_of xs ≡ front ++ r ∷ rest = cc in
    let in-xs = λ (z : Ui) (c : Contains (front ++ r ∷ rest) z). not-first z x xs a (named-there z xs (subst (λ zs. Contains zs z) (sym more) c)) in
    let lt = stands-before q r xs front rest a.1 more there in
    subst (λ b. at b r xs < at (same_ui x.port q) q xs) (sym (in-xs r (r-there r front rest)))
    (subst (λ c. index_of r xs + 1 < at c q xs) (sym (in-xs q (in-behind q r front rest there))) (omega (arith, lt)))

-- and so among those of one priority
of-before : (p : ℕ) (q r : Ui) (xs : List Enabled) → AreApart xs → index_of r xs < index_of q xs → is_of p r xs ≡ true → is_of p q xs ≡ true → index_of r (of_priority p xs) < index_of q (of_priority p xs)
of-before p q r [] a lt one two = absurd (false≢true one)
of-before p q r (x ∷ xs) a lt one two = go (x.priority == p) (same_ui x.port r) (same_ui x.port q) refl refl lt one two (of-before p q r xs a.1)
  where
    first-out : same_ui x.port r ≡ true → is_enabled r (of_priority p xs) ≡ false
    first-out t = not-of p r xs (ap (λ (z : Ui). is_enabled z xs) (sym (from_same_ui x.port r t)) ∙ a.0)

    go : (d b c : Bool) → same_ui x.port r ≡ b → same_ui x.port q ≡ c → at b r xs < at c q xs → is_enabled r (if d then x ∷ of_priority p xs else of_priority p xs) ≡ true → is_enabled q (if d then x ∷ of_priority p xs else of_priority p xs) ≡ true
        → (index_of r xs < index_of q xs → is_of p r xs ≡ true → is_of p q xs ≡ true → index_of r (of_priority p xs) < index_of q (of_priority p xs))
        → index_of r (if d then x ∷ of_priority p xs else of_priority p xs) < index_of q (if d then x ∷ of_priority p xs else of_priority p xs)
    go d b true t u k h j more = absurd (omega (arith, k))
    go true true false t u k h j more =
        subst (λ b. at b r (of_priority p xs) < at (same_ui x.port q) q (of_priority p xs)) (sym t) (subst (λ c. 0 < at c q (of_priority p xs)) (sym u) (omega arith))
    go false true false t u k h j more = absurd (true≢false (sym h ∙ first-out t))
    go true false false t u k h j more =
        let lt = more (omega (arith, k)) (subst (λ b. (b || is_enabled r (of_priority p xs)) ≡ true) t h) (subst (λ b. (b || is_enabled q (of_priority p xs)) ≡ true) u j) in
        subst (λ b. at b r (of_priority p xs) < at (same_ui x.port q) q (of_priority p xs)) (sym t)
        (subst (λ c. index_of r (of_priority p xs) + 1 < at c q (of_priority p xs)) (sym u) (omega (arith, lt)))
    go false false false t u k h j more = more (omega (arith, k)) h j

-- The ports that stand before it become fewer with each message.

record Enables (p : ℕ) (xs ys : List Enabled) : Type 0 where
  apart : AreApart ys
  falling : IsFalling ys
  more : List Enabled
  same : of_priority p ys ≡ of_priority p xs ++ more

enables : (p : ℕ) (r : Ui) (o : ℕ) (xs : List Enabled) → AreApart xs → IsFalling xs → Enables p xs (after_enable r o xs)
enables p r o xs a f = go (is_enabled r xs) (nat_le enabled_limit (length xs)) refl
  where
    as-it-was : Enables p xs xs
    as-it-was = record { apart = a; falling = f; more = []; same = sym (append-nil (of_priority p xs)) }

    go : (b c : Bool) → is_enabled r xs ≡ b → Enables p xs (if b then xs else if c then xs else placed (record { port = r; priority = o }) xs)
    go true c t = as-it-was
    go false true t = as-it-was
    go false false t = record {
      apart = apart-placed (record { port = r; priority = o }) xs t a;
      falling = falling-placed (record { port = r; priority = o }) xs f;
      more = of_priority p (record { port = r; priority = o } ∷ []);
      same = of-placed p (record { port = r; priority = o }) xs f;
    }

-- r gives, and then ports of the priority give k messages
with-gift : (p : ℕ) (q r : Ui) (xs : List Enabled) (k : ℕ) → AreApart xs → PassesOver q r xs → is_of p q xs ≡ true → k ≤ index_of q (moved r (of_priority p xs)) → (b : Bool) → is_of p r xs ≡ b → (if b then 1 else 0) + k ≤ index_of q (of_priority p xs)
with-gift p q r xs k a over there le true t =
    let before = of-before p q r xs a (stands-before q r xs over.front over.rest a over.split over.behind) t there in
    let nearer = moved-nearer q r (of_priority p xs) before there in
    omega (arith, le, nearer)
with-gift p q r xs k a over there le false t =
    let same = subst (λ zs. k ≤ index_of q zs) (moved-none r (of_priority p xs) t) le in omega (arith, same)

fewer : (xs : List Enabled) (q : Ui) (p : ℕ) (cs : List Change) → AreApart xs → IsFalling xs → is_of p q xs ≡ true → IsNotLookedAt q xs cs → given_at p xs cs ≤ index_of q (of_priority p xs)
fewer xs q p [] a f there w = omega arith
fewer xs q p (changes.Enable r o ∷ cs) a f there w =
    let e = enables p r o xs a f in
    let two = push-same q (of_priority p xs) e.more there in
    subst (λ n. given_at p (after_enable r o xs) cs ≤ n) (ap (index_of q) e.same ∙ two.0)
    (fewer (after_enable r o xs) q p cs e.apart e.falling (ap (is_enabled q) e.same ∙ two.1) w)
fewer xs q p (changes.Disable r ∷ cs) a f there w =
    let same = of-without p r xs a in
    let two = without-nearer q r (of_priority p xs) w.0 there in
    let more = subst (λ zs. given_at p (without r xs) cs ≤ index_of q zs) same (fewer (without r xs) q p cs (apart-without r xs a) (falling-without r xs f) (ap (is_enabled q) same ∙ two.1) w.1) in
    let le = two.0 in
    omega (arith, more, le)
fewer xs q p (changes.Give r ∷ cs) a f there w =
    let same = of-turned p r xs a f in
    let more = subst (λ zs. given_at p (turned r xs) cs ≤ index_of q zs) same
    (fewer (turned r xs) q p cs (apart-turned r xs a) (falling-turned r xs f) (ap (is_enabled q) same ∙ enabled-moved q r (of_priority p xs) ∙ there) w.1) in
    with-gift p q r xs (given_at p (turned r xs) cs) a w.0 there more (is_of p r xs) refl

pub none-starves : NoneStarves
none-starves xs q p cs a f there w =
    let most = fewer xs q p cs a f there w in
    let room = inside q (of_priority p xs) there in
    omega (arith, most, room)
