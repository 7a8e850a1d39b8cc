-- What the list of records is for each name: after a record is replaced, is left out, or comes last.
use Rattle.std.proofs.Common.{◌≡◌, ◌+◌, Bool, true, false, not, cond, Option, Some, None, is_some, List, [], ◌∷◌, ◌++◌, length, IfSome, refl, sym, ◌∙◌, ap, subst, arith}
use Rattle.std.proofs.lemmas.Bool.{and_parts}
use Rattle.std.specs.Option.{option_map, option_or}
use Rattle.chorus_ui.specs.declared.ui.Ui.{Ui}
use Rattle.chorus_ui.specs.Name.{same_ui}
use Rattle.chorus_ui.proofs.Names.{from_same_ui, same_ui_tells}
use Rattle.chorus_entry.specs.declared.record.PortRecord.{PortRecord}
use Rattle.chorus_ports.specs.Table.{find, replace, without, are_distinct}
use Rattle.chorus_ports.specs.Limits.{IsWithinLimits, AreWithinLimits}

-- a name cannot be the same as two that differ
apart : (u p q : Ui) → same_ui u q ≡ false → same_ui u p ≡ true → same_ui q p ≡ true → ⊥
apart u p q differs one two = grind (arith, same_ui_tells u q, same_ui_tells u p, same_ui_tells q p)

pub differs_back : (p q : Ui) → same_ui p q ≡ false → same_ui q p ≡ false
differs_back p q differs = grind (arith, same_ui_tells p q, same_ui_tells q p)

pub none_of : {A : Type 0} (o : Option A) → is_some o ≡ false → o ≡ None
none_of None e = refl
none_of (Some a) e = cc

-- the record that is found has the name
pub find-name : (q : Ui) (rs : List PortRecord) (r : PortRecord) → find q rs ≡ Some r → r.ui ≡ q
find-name q [] r h = cc
find-name q (x ∷ xs) r h = by (same_ui x.ui q) refl h (find-name q xs r)
  where
    by : (b : Bool) → same_ui x.ui q ≡ b → cond b (Some x) (find q xs) ≡ Some r → (find q xs ≡ Some r → r.ui ≡ q) → r.ui ≡ q
    by true e h on = let s : x.ui ≡ q = from_same_ui x.ui q e in let n : x ≡ r = cc in sym (ap (λ p. p.ui) n) ∙ s
    by false e h on = on h

-- a change of a record that keeps its name
abbrev pub KeepsName : (PortRecord → PortRecord) → Type 0
KeepsName f = (r : PortRecord) → (f r).ui ≡ r.ui

-- a record that is replaced is found under its name, and the others as before
pub find-replace : (p q : Ui) (f : PortRecord → PortRecord) (rs : List PortRecord) → KeepsName f → find p (replace q f rs) ≡ cond (same_ui q p) (option_map f (find p rs)) (find p rs)
find-replace p q f [] keeps = by (same_ui q p)
  where
    by : (b : Bool) → find p [] ≡ cond b (option_map f (find p [])) (find p [])
    by true = refl
    by false = refl
find-replace p q f (x ∷ xs) keeps = by (same_ui x.ui q) refl (find-replace p q f xs keeps)
  where
    same : (o : Option PortRecord) (t : Bool) → cond t (Some (f x)) o ≡ cond t (option_map f (cond t (Some x) o)) (cond t (Some x) o)
    same o true = refl
    same o false = refl

    own : (o : Option PortRecord) (s t u : Bool) → u ≡ t → s ≡ t → cond u (Some (f x)) o ≡ cond t (option_map f (cond s (Some x) o)) (cond s (Some x) o)
    own o s t u eu es = rw (eu, es) (same o t)

    other : (o : Option PortRecord) (s t : Bool) → (s ≡ true → t ≡ true → ⊥) → cond s (Some x) (cond t (option_map f o) o) ≡ cond t (option_map f (cond s (Some x) o)) (cond s (Some x) o)
    other o true true differ = absurd (differ refl refl)
    other o true false differ = refl
    other o false t differ = refl

    by : (b : Bool) → same_ui x.ui q ≡ b → find p (replace q f xs) ≡ cond (same_ui q p) (option_map f (find p xs)) (find p xs) → find p (cond b (f x ∷ xs) (x ∷ replace q f xs)) ≡ cond (same_ui q p) (option_map f (cond (same_ui x.ui p) (Some x) (find p xs))) (cond (same_ui x.ui p) (Some x) (find p xs))
    by true e on =
        let name : x.ui ≡ q = from_same_ui x.ui q e in
        own (find p xs) (same_ui x.ui p) (same_ui q p) (same_ui (f x).ui p) (ap (λ u. same_ui u p) (keeps x ∙ name)) (ap (λ u. same_ui u p) name)
    by false e on = rw on (other (find p xs) (same_ui x.ui p) (same_ui q p) (apart x.ui p q e))

-- a change of a record leaves each port held that was
pub held-replace : (p q : Ui) (f : PortRecord → PortRecord) (rs : List PortRecord) → KeepsName f → is_some (find p (replace q f rs)) ≡ is_some (find p rs)
held-replace p q f rs keeps = ap is_some (find-replace p q f rs keeps) ∙ by (same_ui q p) (find p rs)
  where
    by : (t : Bool) (o : Option PortRecord) → is_some (cond t (option_map f o) o) ≡ is_some o
    by true None = refl
    by true (Some r) = refl
    by false o = refl

-- the first record has a name of its own
pub find-rest : (p : Ui) (r : PortRecord) (rs : List PortRecord) → are_distinct (r ∷ rs) ≡ true → find p rs ≡ cond (same_ui r.ui p) None (find p (r ∷ rs))
find-rest p r rs distinct = by (same_ui r.ui p) refl
  where
    by : (t : Bool) → same_ui r.ui p ≡ t → find p rs ≡ cond t None (cond t (Some r) (find p rs))
    by true e =
        let parts = and_parts (not (is_some (find r.ui rs))) (are_distinct rs) distinct in
        let same : r.ui ≡ p = from_same_ui r.ui p e in
        ap (λ u. find u rs) (sym same) ∙ none_of (find r.ui rs) (grind (arith, parts.0))
    by false e = refl

-- a record that is left out is not found, and the others are found as before
pub find-without : (p q : Ui) (rs : List PortRecord) → are_distinct rs ≡ true → find p (without q rs) ≡ cond (same_ui q p) None (find p rs)
find-without p q [] distinct = by (same_ui q p)
  where
    by : (b : Bool) → find p [] ≡ cond b None (find p [])
    by true = refl
    by false = refl
find-without p q (x ∷ xs) distinct =
    by (same_ui x.ui q) refl (find-without p q xs (and_parts (not (is_some (find x.ui xs))) (are_distinct xs) distinct).1)
  where
    other : (o : Option PortRecord) (s t : Bool) → (s ≡ true → t ≡ true → ⊥) → cond s (Some x) (cond t None o) ≡ cond t None (cond s (Some x) o)
    other o true true differ = absurd (differ refl refl)
    other o true false differ = refl
    other o false t differ = refl

    by : (b : Bool) → same_ui x.ui q ≡ b → find p (without q xs) ≡ cond (same_ui q p) None (find p xs) → find p (cond b xs (x ∷ without q xs)) ≡ cond (same_ui q p) None (cond (same_ui x.ui p) (Some x) (find p xs))
    by true e on =
        find-rest p x xs distinct
        ∙ ap (λ t. cond t None (cond (same_ui x.ui p) (Some x) (find p xs))) (ap (λ u. same_ui u p) (from_same_ui x.ui q e))
    by false e on = rw on (other (find p xs) (same_ui x.ui p) (same_ui q p) (apart x.ui p q e))

-- what is found in two lists of which one follows the other
pub find-append : (p : Ui) (rs qs : List PortRecord) → find p (rs ++ qs) ≡ option_or (find p rs) (find p qs)
find-append p [] qs = refl
find-append p (x ∷ xs) qs = by (same_ui x.ui p) (find-append p xs qs)
  where
    by : (b : Bool) → find p (xs ++ qs) ≡ option_or (find p xs) (find p qs) → cond b (Some x) (find p (xs ++ qs)) ≡ option_or (cond b (Some x) (find p xs)) (find p qs)
    by true on = refl
    by false on = on

-- a record that comes last, of a port that was not held
pub find-last : (p : Ui) (rs : List PortRecord) (r : PortRecord) → find r.ui rs ≡ None → find p (rs ++ r ∷ []) ≡ cond (same_ui r.ui p) (Some r) (find p rs)
find-last p rs r absent = find-append p rs (r ∷ []) ∙ by (same_ui r.ui p) refl
  where
    or_none : (o : Option PortRecord) → option_or o None ≡ o
    or_none None = refl
    or_none (Some a) = refl

    by : (t : Bool) → same_ui r.ui p ≡ t → option_or (find p rs) (cond t (Some r) None) ≡ cond t (Some r) (find p rs)
    by true e =
        let gone : find p rs ≡ None = ap (λ u. find u rs) (sym (from_same_ui r.ui p e)) ∙ absent in
        ap (λ o. option_or o (Some r)) gone
    by false e = or_none (find p rs)

-- a port that is not in a list is none of its records
pub absent-step : (q : Ui) (x : PortRecord) (xs : List PortRecord) → find q (x ∷ xs) ≡ None → (same_ui x.ui q ≡ false) × (find q xs ≡ None)
absent-step q x xs absent = by (same_ui x.ui q) absent
  where
    by : (b : Bool) → cond b (Some x) (find q xs) ≡ None → (b ≡ false) × (find q xs ≡ None)
    by true h = absurd (cc)
    by false h = (refl, h)

pub replace-absent : (q : Ui) (f : PortRecord → PortRecord) (rs : List PortRecord) → find q rs ≡ None → replace q f rs ≡ rs
replace-absent q f [] absent = refl
replace-absent q f (x ∷ xs) absent =
    let step = absent-step q x xs absent in
    rw step.0 (ap (λ ys. x ∷ ys) (replace-absent q f xs step.1))

pub without-absent : (q : Ui) (rs : List PortRecord) → find q rs ≡ None → without q rs ≡ rs
without-absent q [] absent = refl
without-absent q (x ∷ xs) absent =
    let step = absent-step q x xs absent in
    rw step.0 (ap (λ ys. x ∷ ys) (without-absent q xs step.1))

pub length-replace : (q : Ui) (f : PortRecord → PortRecord) (rs : List PortRecord) → length (replace q f rs) ≡ length rs
length-replace q f [] = refl
length-replace q f (x ∷ xs) = by (same_ui x.ui q) (length-replace q f xs)
  where
    by : (b : Bool) → length (replace q f xs) ≡ length xs → length (cond b (f x ∷ xs) (x ∷ replace q f xs)) ≡ length (x ∷ xs)
    by true on = refl
    by false on = grind (arith, on)

pub length-without : (q : Ui) (rs : List PortRecord) → is_some (find q rs) ≡ true → length (without q rs) + 1 ≡ length rs
length-without q [] held = cc
length-without q (x ∷ xs) held = by (same_ui x.ui q) held (length-without q xs)
  where
    by : (b : Bool) → is_some (cond b (Some x) (find q xs)) ≡ true → (is_some (find q xs) ≡ true → length (without q xs) + 1 ≡ length xs) → length (cond b xs (x ∷ without q xs)) + 1 ≡ length (x ∷ xs)
    by true held on = omega arith
    by false held on = let e = on held in omega (arith, e)

-- each port still has one record

pub are_distinct-replace : (q : Ui) (f : PortRecord → PortRecord) (rs : List PortRecord) → KeepsName f → are_distinct (replace q f rs) ≡ are_distinct rs
are_distinct-replace q f [] keeps = refl
are_distinct-replace q f (x ∷ xs) keeps = by (same_ui x.ui q) (are_distinct-replace q f xs keeps)
  where
    by : (b : Bool) → are_distinct (replace q f xs) ≡ are_distinct xs → are_distinct (cond b (f x ∷ xs) (x ∷ replace q f xs)) ≡ are_distinct (x ∷ xs)
    by true on = rw (keeps x) refl
    by false on = rw (held-replace x.ui q f xs keeps, on) refl

pub are_distinct-without : (q : Ui) (rs : List PortRecord) → are_distinct rs ≡ true → are_distinct (without q rs) ≡ true
are_distinct-without q [] distinct = refl
are_distinct-without q (x ∷ xs) distinct =
    by (same_ui x.ui q) (are_distinct-without q xs parts.1)
  where
    parts : (not (is_some (find x.ui xs)) ≡ true) × (are_distinct xs ≡ true)
    parts = and_parts (not (is_some (find x.ui xs))) (are_distinct xs) distinct

    gone : (t : Bool) (o : Option PortRecord) → not (is_some o) ≡ true → not (is_some (cond t None o)) ≡ true
    gone true o e = refl
    gone false o e = e

    by : (b : Bool) → are_distinct (without q xs) ≡ true → are_distinct (cond b xs (x ∷ without q xs)) ≡ true
    by true on = parts.1
    by false on = rw (find-without x.ui q xs parts.1, gone (same_ui q x.ui) (find x.ui xs) parts.0, on) refl

pub are_distinct-last : (rs : List PortRecord) (r : PortRecord) → are_distinct rs ≡ true → find r.ui rs ≡ None → are_distinct (rs ++ r ∷ []) ≡ true
are_distinct-last [] r distinct absent = refl
are_distinct-last (x ∷ xs) r distinct absent =
    let parts = and_parts (not (is_some (find x.ui xs))) (are_distinct xs) distinct in
    let step = absent-step r.ui x xs absent in
    rw (find-last x.ui xs r step.1, differs_back x.ui r.ui step.0, parts.0, are_distinct-last xs r parts.1 step.1) refl

-- and each record keeps its limits

pub limits-found : (q : Ui) (rs : List PortRecord) → AreWithinLimits rs → IfSome (find q rs) IsWithinLimits
limits-found q [] h = tt
limits-found q (x ∷ xs) h = by (same_ui x.ui q) (limits-found q xs h.1)
  where
    by : (b : Bool) → IfSome (find q xs) IsWithinLimits → IfSome (cond b (Some x) (find q xs)) IsWithinLimits
    by true on = h.0
    by false on = on

pub limits-of : (q : Ui) (rs : List PortRecord) (r : PortRecord) → AreWithinLimits rs → find q rs ≡ Some r → IsWithinLimits r
limits-of q rs r h e = subst (λ o. IfSome o IsWithinLimits) e (limits-found q rs h)

pub limits-replace : (q : Ui) (f : PortRecord → PortRecord) (rs : List PortRecord) → ((r : PortRecord) → find q rs ≡ Some r → IsWithinLimits r → IsWithinLimits (f r)) → AreWithinLimits rs → AreWithinLimits (replace q f rs)
limits-replace q f [] keeps h = tt
limits-replace q f (x ∷ xs) keeps h = by (same_ui x.ui q) keeps (limits-replace q f xs)
  where
    by : (b : Bool) → ((r : PortRecord) → cond b (Some x) (find q xs) ≡ Some r → IsWithinLimits r → IsWithinLimits (f r)) → (((r : PortRecord) → find q xs ≡ Some r → IsWithinLimits r → IsWithinLimits (f r)) → AreWithinLimits xs → AreWithinLimits (replace q f xs)) → AreWithinLimits (cond b (f x ∷ xs) (x ∷ replace q f xs))
    by true keeps on = (keeps x refl h.0, h.1)
    by false keeps on = (h.0, on keeps h.1)

pub limits-without : (q : Ui) (rs : List PortRecord) → AreWithinLimits rs → AreWithinLimits (without q rs)
limits-without q [] h = tt
limits-without q (x ∷ xs) h = by (same_ui x.ui q) (limits-without q xs h.1)
  where
    by : (b : Bool) → AreWithinLimits (without q xs) → AreWithinLimits (cond b xs (x ∷ without q xs))
    by true on = h.1
    by false on = (h.0, on)

pub limits-last : (rs : List PortRecord) (r : PortRecord) → AreWithinLimits rs → IsWithinLimits r → AreWithinLimits (rs ++ r ∷ [])
limits-last [] r h k = (k, tt)
limits-last (x ∷ xs) r h k = (h.0, limits-last xs r h.1 k)
