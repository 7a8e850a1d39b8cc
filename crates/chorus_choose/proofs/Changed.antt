-- The looking order behind all that is done to a chooser.
-- e is an enabled port, q and r are ports, p is a priority, xs are enabled ports, order and noted the same ones as they are looked at and as
-- they were last enabled or gave in turn.
use Rattle.std.proofs.Common.{◌≡◌, ℕ, suc, ◌+◌, ◌==◌, nat_le, Bool, true, false, not, ◌||◌, ◌&&◌, if◌then◌else◌, List, [], ◌∷◌, ◌++◌, append-nil, length, length-append, refl, sym, ◌∙◌, ap, subst, arith}
use Rattle.std.proofs.lemmas.Bool.{or_from, or_parts, true≢false}
use Rattle.std.proofs.lemmas.List.Elements.{filter-append}
use Rattle.chorus_ui.specs.declared.ui.Ui.{Ui}
use Rattle.chorus_ui.specs.Name.{same_ui}
use Rattle.chorus_ui.proofs.Names.{from_same_ui}
use Rattle.chorus_choose.specs.declared.chooser.Enabled.{Enabled}
use Rattle.chorus_choose.specs.declared.laws.Change.{Change}
use Rattle.chorus_choose.specs.declared.laws.Change.TheVariants as changes
use Rattle.chorus_choose.specs.Looking.{enabled_limit, placed, is_enabled, without, after_enable, turned, AreApart, IsFalling}
use Rattle.chorus_choose.specs.Changes.{added, changed, ChangesOrder, moved, noted, noted_after, of_priority, order_after}
use Rattle.chorus_choose.proofs.Order.{apart-placed, apart-turned, apart-without, enabled-placed, enabled-turned, falling-placed, falling-turned, falling-without, length-placed, length-turned, of-placed, same-swap, without-none}

-- What is behind all others.

pub enabled-push : (q : Ui) (xs : List Enabled) (e : Enabled) → is_enabled q (xs ++ e ∷ []) ≡ (same_ui e.port q || is_enabled q xs)
enabled-push q [] e = refl
enabled-push q (x ∷ xs) e = ap (λ b. same_ui x.port q || b) (enabled-push q xs e) ∙ swap (same_ui x.port q) (same_ui e.port q) (is_enabled q xs)
  where
    swap : (a b c : Bool) → (a || (b || c)) ≡ (b || (a || c))
    swap true true c = refl
    swap true false c = refl
    swap false true c = refl
    swap false false c = refl

apart-push : (e : Enabled) (xs : List Enabled) → is_enabled e.port xs ≡ false → AreApart xs → AreApart (xs ++ e ∷ [])
apart-push e [] new a = (refl, tt)
apart-push e (x ∷ xs) new a =
    let two = or_parts (same_ui x.port e.port) (is_enabled e.port xs) new in
    (enabled-push x.port xs e ∙ or_from (same_ui e.port x.port) (is_enabled x.port xs) (same-swap e.port x.port ∙ two.0) a.0, apart-push e xs two.1 a.1)

pub enabled-moved : (q r : Ui) (xs : List Enabled) → is_enabled q (moved r xs) ≡ is_enabled q xs
enabled-moved q r [] = refl
enabled-moved q r (x ∷ xs) = go (same_ui x.port r) (enabled-moved q r xs)
  where
    go : (b : Bool) → is_enabled q (moved r xs) ≡ is_enabled q xs → is_enabled q (if b then xs ++ x ∷ [] else x ∷ moved r xs) ≡ (same_ui x.port q || is_enabled q xs)
    go true more = enabled-push q xs x
    go false more = ap (λ b. same_ui x.port q || b) more

length-moved : (r : Ui) (xs : List Enabled) → length (moved r xs) ≡ length xs
length-moved r [] = refl
length-moved r (x ∷ xs) = go (same_ui x.port r) (length-moved r xs)
  where
    go : (b : Bool) → length (moved r xs) ≡ length xs → length (if b then xs ++ x ∷ [] else x ∷ moved r xs) ≡ length (x ∷ xs)
    go true more = let n = length-append xs (x ∷ []) in omega (arith, n)
    go false more = ap suc more

apart-moved : (r : Ui) (xs : List Enabled) → AreApart xs → AreApart (moved r xs)
apart-moved r [] a = tt
apart-moved r (x ∷ xs) a = go (same_ui x.port r) (apart-moved r xs a.1)
  where
    go : (b : Bool) → AreApart (moved r xs) → AreApart (if b then xs ++ x ∷ [] else x ∷ moved r xs)
    go true more = apart-push x xs a.0 a.1
    go false more = (enabled-moved x.port r xs ∙ a.0, more)

-- where it is not enabled, nothing is moved
pub moved-none : (q : Ui) (xs : List Enabled) → is_enabled q xs ≡ false → moved q xs ≡ xs
moved-none q [] h = refl
moved-none q (x ∷ xs) h = go (same_ui x.port q) two.0 (moved-none q xs two.1)
  where
    two : (same_ui x.port q ≡ false) × (is_enabled q xs ≡ false)
    two = or_parts (same_ui x.port q) (is_enabled q xs) h

    go : (b : Bool) → b ≡ false → moved q xs ≡ xs → (if b then xs ++ x ∷ [] else x ∷ moved q xs) ≡ x ∷ xs
    go true t more = absurd (true≢false t)
    go false t more = ap (λ zs. x ∷ zs) more

-- Those of one priority.

pub not-of : (p : ℕ) (q : Ui) (xs : List Enabled) → is_enabled q xs ≡ false → is_enabled q (of_priority p xs) ≡ false
not-of p q [] h = refl
not-of p q (x ∷ xs) h = go (x.priority == p) (not-of p q xs two.1)
  where
    two : (same_ui x.port q ≡ false) × (is_enabled q xs ≡ false)
    two = or_parts (same_ui x.port q) (is_enabled q xs) h

    go : (b : Bool) → is_enabled q (of_priority p xs) ≡ false → is_enabled q (if b then x ∷ of_priority p xs else of_priority p xs) ≡ false
    go true more = or_from (same_ui x.port q) (is_enabled q (of_priority p xs)) two.0 more
    go false more = more

-- the port that is looked for, where it is x
absent : (q : Ui) (x : Enabled) (xs : List Enabled) → same_ui x.port q ≡ true → AreApart (x ∷ xs) → is_enabled q xs ≡ false
absent q x xs same a = ap (λ (z : Ui). is_enabled z xs) (sym (from_same_ui x.port q same)) ∙ a.0

pub of-without : (p : ℕ) (q : Ui) (xs : List Enabled) → AreApart xs → of_priority p (without q xs) ≡ without q (of_priority p xs)
of-without p q [] a = refl
of-without p q (x ∷ xs) a = go (same_ui x.port q) (x.priority == p) refl refl (of-without p q xs a.1)
  where
    go : (b c : Bool) → same_ui x.port q ≡ b → (x.priority == p) ≡ c → of_priority p (without q xs) ≡ without q (of_priority p xs)
        → of_priority p (if b then xs else x ∷ without q xs) ≡ without q (if c then x ∷ of_priority p xs else of_priority p xs)
    go true true t u more = sym (ap (λ b. if b then of_priority p xs else x ∷ without q (of_priority p xs)) t)
    go true false t u more = sym (without-none q (of_priority p xs) (not-of p q xs (absent q x xs t a)))
    go false true t u more =
        ap (λ c. if c then x ∷ of_priority p (without q xs) else of_priority p (without q xs)) u ∙ ap (λ zs. x ∷ zs) more
        ∙ sym (ap (λ b. if b then of_priority p xs else x ∷ without q (of_priority p xs)) t)
    go false false t u more = ap (λ c. if c then x ∷ of_priority p (without q xs) else of_priority p (without q xs)) u ∙ more

of-one : (p : ℕ) (x : Enabled) (c : Bool) → (x.priority == p) ≡ c → of_priority p (x ∷ []) ≡ (if c then x ∷ [] else [])
of-one p x c u = ap (λ b. if b then x ∷ [] else []) u

pub of-moved : (p : ℕ) (q : Ui) (xs : List Enabled) → AreApart xs → of_priority p (moved q xs) ≡ moved q (of_priority p xs)
of-moved p q [] a = refl
of-moved p q (x ∷ xs) a = go (same_ui x.port q) (x.priority == p) refl refl (of-moved p q xs a.1)
  where
    go : (b c : Bool) → same_ui x.port q ≡ b → (x.priority == p) ≡ c → of_priority p (moved q xs) ≡ moved q (of_priority p xs)
        → of_priority p (if b then xs ++ x ∷ [] else x ∷ moved q xs) ≡ moved q (if c then x ∷ of_priority p xs else of_priority p xs)
    go true true t u more =
        filter-append (λ (y : Enabled). y.priority == p) xs (x ∷ []) ∙ ap (λ zs. of_priority p xs ++ zs) (of-one p x true u)
        ∙ sym (ap (λ b. if b then of_priority p xs ++ x ∷ [] else x ∷ moved q (of_priority p xs)) t)
    go true false t u more =
        filter-append (λ (y : Enabled). y.priority == p) xs (x ∷ []) ∙ ap (λ zs. of_priority p xs ++ zs) (of-one p x false u) ∙ append-nil (of_priority p xs)
        ∙ sym (moved-none q (of_priority p xs) (not-of p q xs (absent q x xs t a)))
    go false true t u more =
        ap (λ c. if c then x ∷ of_priority p (moved q xs) else of_priority p (moved q xs)) u ∙ ap (λ zs. x ∷ zs) more
        ∙ sym (ap (λ b. if b then of_priority p xs ++ x ∷ [] else x ∷ moved q (of_priority p xs)) t)
    go false false t u more = ap (λ c. if c then x ∷ of_priority p (moved q xs) else of_priority p (moved q xs)) u ∙ more

pub of-turned : (p : ℕ) (q : Ui) (xs : List Enabled) → AreApart xs → IsFalling xs → of_priority p (turned q xs) ≡ moved q (of_priority p xs)
of-turned p q [] a f = refl
of-turned p q (x ∷ xs) a f = go (same_ui x.port q) (x.priority == p) refl refl (of-turned p q xs a.1 f.1)
  where
    go : (b c : Bool) → same_ui x.port q ≡ b → (x.priority == p) ≡ c → of_priority p (turned q xs) ≡ moved q (of_priority p xs)
        → of_priority p (if b then placed x xs else x ∷ turned q xs) ≡ moved q (if c then x ∷ of_priority p xs else of_priority p xs)
    go true true t u more =
        of-placed p x xs f.1 ∙ ap (λ zs. of_priority p xs ++ zs) (of-one p x true u)
        ∙ sym (ap (λ b. if b then of_priority p xs ++ x ∷ [] else x ∷ moved q (of_priority p xs)) t)
    go true false t u more =
        of-placed p x xs f.1 ∙ ap (λ zs. of_priority p xs ++ zs) (of-one p x false u) ∙ append-nil (of_priority p xs)
        ∙ sym (moved-none q (of_priority p xs) (not-of p q xs (absent q x xs t a)))
    go false true t u more =
        ap (λ c. if c then x ∷ of_priority p (turned q xs) else of_priority p (turned q xs)) u ∙ ap (λ zs. x ∷ zs) more
        ∙ sym (ap (λ b. if b then of_priority p xs ++ x ∷ [] else x ∷ moved q (of_priority p xs)) t)
    go false false t u more = ap (λ c. if c then x ∷ of_priority p (turned q xs) else of_priority p (turned q xs)) u ∙ more

-- What is taken away.

enabled-left : (q r : Ui) (xs : List Enabled) → AreApart xs → is_enabled q (without r xs) ≡ (is_enabled q xs && not (same_ui r q))
enabled-left q r [] a = refl
enabled-left q r (x ∷ xs) a = go (same_ui x.port r) refl (enabled-left q r xs a.1)
  where
    none : (b : Bool) → (b && not true) ≡ false
    none true = refl
    none false = refl

    plain : (b : Bool) → (b && not false) ≡ b
    plain true = refl
    plain false = refl

    both : (c d k : Bool) → (c ≡ true → k ≡ false) → (d && not k) ≡ (d && not k) → (c || (d && not k)) ≡ ((c || d) && not k)
    both true true true h e = absurd (true≢false (h refl))
    both true false true h e = absurd (true≢false (h refl))
    both true true false h e = refl
    both true false false h e = refl
    both false d k h e = refl

    here : same_ui x.port r ≡ true → (c : Bool) → same_ui r q ≡ c → is_enabled q xs ≡ ((same_ui x.port q || is_enabled q xs) && not c)
    here t true u = absent q x xs (ap (λ (z : Ui). same_ui z q) (from_same_ui x.port r t) ∙ u) a ∙ sym (none (same_ui x.port q || is_enabled q xs))
    here t false u = sym (ap (λ b. (b || is_enabled q xs) && not false) (ap (λ (z : Ui). same_ui z q) (from_same_ui x.port r t) ∙ u) ∙ plain (is_enabled q xs))

    apart : same_ui x.port r ≡ false → same_ui x.port q ≡ true → same_ui r q ≡ false
    apart t u = ap (λ (z : Ui). same_ui r z) (sym (from_same_ui x.port q u)) ∙ same-swap r x.port ∙ t

    go : (b : Bool) → same_ui x.port r ≡ b → is_enabled q (without r xs) ≡ (is_enabled q xs && not (same_ui r q))
        → is_enabled q (if b then xs else x ∷ without r xs) ≡ ((same_ui x.port q || is_enabled q xs) && not (same_ui r q))
    go true t more = here t (same_ui r q) refl
    go false t more = ap (λ b. same_ui x.port q || b) more ∙ both (same_ui x.port q) (is_enabled q xs) (same_ui r q) (apart t) refl

length-left : (r : Ui) (xs : List Enabled) → is_enabled r xs ≡ true → length (without r xs) + 1 ≡ length xs
length-left r [] h = absurd (true≢false (sym h))
length-left r (x ∷ xs) h = go (same_ui x.port r) h (length-left r xs)
  where
    go : (b : Bool) → (b || is_enabled r xs) ≡ true → (is_enabled r xs ≡ true → length (without r xs) + 1 ≡ length xs) → length (if b then xs else x ∷ without r xs) + 1 ≡ length (x ∷ xs)
    go true k more = omega arith
    go false k more = let n = more k in omega (arith, n)

-- One thing that is done.

record Alike (order noted : List Enabled) : Type 0 where
  apart : AreApart order
  falling : IsFalling order
  apart_too : AreApart noted
  same : (p : ℕ) → of_priority p order ≡ of_priority p noted
  named : (q : Ui) → is_enabled q order ≡ is_enabled q noted
  count : length order ≡ length noted

alike-added : (e : Enabled) (order noted : List Enabled) → is_enabled e.port order ≡ false → Alike order noted → Alike (placed e order) (noted ++ e ∷ [])
alike-added e order noted new k = record {
  apart = apart-placed e order new k.apart;
  falling = falling-placed e order k.falling;
  apart_too = apart-push e noted (sym (k.named e.port) ∙ new) k.apart_too;
  same = λ p. of-placed p e order k.falling ∙ ap (λ zs. zs ++ of_priority p (e ∷ [])) (k.same p) ∙ sym (filter-append (λ (y : Enabled). y.priority == p) noted (e ∷ []));
  named = λ q. enabled-placed q e order ∙ ap (λ b. same_ui e.port q || b) (k.named q) ∙ sym (enabled-push q noted e);
  count = let n = length-placed e order in let m = length-append noted (e ∷ []) in let c = k.count in omega (arith, n, m, c);
}

alike-enable : (q : Ui) (p : ℕ) (order noted : List Enabled) → Alike order noted → Alike (after_enable q p order) (added q p noted)
alike-enable q p order noted k =
    subst (λ b. Alike (after_enable q p order) (if b then noted else if nat_le enabled_limit (length noted) then noted else noted ++ (record { port = q; priority = p } ∷ []))) (k.named q)
    (subst (λ n. Alike (after_enable q p order) (if is_enabled q order then noted else if nat_le enabled_limit n then noted else noted ++ (record { port = q; priority = p } ∷ []))) k.count
    (go (is_enabled q order) (nat_le enabled_limit (length order)) refl))
  where
    go : (b c : Bool) → is_enabled q order ≡ b → Alike (if b then order else if c then order else placed (record { port = q; priority = p }) order) (if b then noted else if c then noted else noted ++ (record { port = q; priority = p } ∷ []))
    go true c t = k
    go false true t = k
    go false false t = alike-added (record { port = q; priority = p }) order noted t k

alike-disable : (q : Ui) (order noted : List Enabled) → Alike order noted → Alike (without q order) (without q noted)
alike-disable q order noted k = record {
  apart = apart-without q order k.apart;
  falling = falling-without q order k.falling;
  apart_too = apart-without q noted k.apart_too;
  same = λ p. of-without p q order k.apart ∙ ap (without q) (k.same p) ∙ sym (of-without p q noted k.apart_too);
  named = λ r. enabled-left r q order k.apart ∙ ap (λ b. b && not (same_ui q r)) (k.named r) ∙ sym (enabled-left r q noted k.apart_too);
  count = go (is_enabled q order) refl;
}
  where
    go : (b : Bool) → is_enabled q order ≡ b → length (without q order) ≡ length (without q noted)
    go true t = let n = length-left q order t in let m = length-left q noted (sym (k.named q) ∙ t) in let c = k.count in omega (arith, n, m, c)
    go false t = ap (λ (zs : List Enabled). length zs) (without-none q order t) ∙ k.count ∙ sym (ap (λ (zs : List Enabled). length zs) (without-none q noted (sym (k.named q) ∙ t)))

alike-give : (q : Ui) (order noted : List Enabled) → Alike order noted → Alike (turned q order) (moved q noted)
alike-give q order noted k = record {
  apart = apart-turned q order k.apart;
  falling = falling-turned q order k.falling;
  apart_too = apart-moved q noted k.apart_too;
  same = λ p. of-turned p q order k.apart k.falling ∙ ap (moved q) (k.same p) ∙ sym (of-moved p q noted k.apart_too);
  named = λ r. enabled-turned r q order ∙ k.named r ∙ sym (enabled-moved r q noted);
  count = length-turned q order ∙ k.count ∙ sym (length-moved q noted);
}

alike-after : (cs : List Change) (order other : List Enabled) → Alike order other → Alike (order_after cs order) (noted_after cs other)
alike-after [] order other k = k
alike-after (changes.Enable q p ∷ cs) order other k = alike-after cs (changed (changes.Enable q p) order) (noted (changes.Enable q p) other) (alike-enable q p order other k)
alike-after (changes.Disable q ∷ cs) order other k = alike-after cs (changed (changes.Disable q) order) (noted (changes.Disable q) other) (alike-disable q order other k)
alike-after (changes.Give q ∷ cs) order other k = alike-after cs (changed (changes.Give q) order) (noted (changes.Give q) other) (alike-give q order other k)

alike-none : Alike [] []
alike-none = record { apart = tt; falling = tt; apart_too = tt; same = λ p. refl; named = λ q. refl; count = refl }

pub changes-order : ChangesOrder
changes-order cs = let k = alike-after cs [] [] alike-none in (k.falling, k.same)
