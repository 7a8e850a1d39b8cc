-- Packets in memory: of one place, and by place.
use Rattle.std.proofs.Common.{ℕ, suc, ◌≡◌, ◌≢◌, ◌+◌, ◌<◌, ◌≤◌, ◌==◌, Bool, true, false, cond, List, [], ◌∷◌, ◌++◌, map, length, take, drop, get_or, set, drop-cons, refl, sym, ◌∙◌, ap, subst}
use Rattle.std.specs.List.{remove}
use Rattle.std.proofs.lemmas.Bool.{eq-eqb, ne_eqb, eqb-true, eqb-false}
use Rattle.std.proofs.lemmas.List.{take-append-drop, map-append, map-set, length-map, get_or-map, get_or-set_same, get_or-set_other}
use Rattle.std.proofs.Math.Seq.{map-set_same}
use Rattle.std.proofs.lemmas.List.Elements.{filter-append, filter_more}
use Rattle.chorus_entry.specs.declared.packet.Packet.{Packet}
use Rattle.chorus_ends.specs.Memory.{is_from, from_place, to_place, NoneFrom, IsFirstFrom, GoesTo, IsSame}

-- one packet more is looked at
pub none-on : (p at : ℕ) (packets : List Packet) (d : Packet) → at < length packets → (get_or packets at d).from ≢ p → NoneFrom p at packets → NoneFrom p (at + 1) packets
none-on p at packets d lt ne none =
    filter_more (is_from p) packets at d lt ∙ ap (λ ls. ls ++ cond (is_from p (get_or packets at d)) (get_or packets at d ∷ []) []) none ∙ ap (λ b. cond b (get_or packets at d ∷ []) []) (ne_eqb (get_or packets at d).from p ne)

-- a packet is taken out, before which none comes from its place
first-of : (p : ℕ) (before rest : List Packet) (x : Packet) → from_place p before ≡ [] → x.from ≡ p → from_place p (before ++ x ∷ rest) ≡ x ∷ from_place p (before ++ rest)
first-of p before rest x none is =
    filter-append (is_from p) before (x ∷ rest)
    ∙ ap (λ ls. ls ++ from_place p (x ∷ rest)) none
    ∙ ap (λ b. cond b (x ∷ from_place p rest) (from_place p rest)) (eq-eqb x.from p is)
    ∙ sym (ap (λ ls. x ∷ (ls ++ from_place p rest)) none)
    ∙ sym (ap (λ ls. x ∷ ls) (filter-append (is_from p) before rest))

other-of : (p q : ℕ) (before rest : List Packet) (x : Packet) → x.from ≡ p → q ≢ p → from_place q (before ++ rest) ≡ from_place q (before ++ x ∷ rest)
other-of p q before rest x is ne =
    filter-append (is_from q) before rest
    ∙ ap (λ b. from_place q before ++ cond b (x ∷ from_place q rest) (from_place q rest)) (sym (ne_eqb x.from q (λ e. ne (sym e ∙ is))))
    ∙ sym (filter-append (is_from q) before (x ∷ rest))

parts-at : (at : ℕ) (packets : List Packet) (x : Packet) → at < length packets → x ≡ get_or packets at x → packets ≡ take at packets ++ x ∷ drop (suc at) packets
parts-at at packets x lt e =
    sym (take-append-drop at packets)
    ∙ ap (λ ls. take at packets ++ ls) (drop-cons packets at x lt)
    ∙ ap (λ y. take at packets ++ y ∷ drop (suc at) packets) (sym e)

pub is-from : (p at : ℕ) (packets : List Packet) (x : Packet) → IsFirstFrom p at packets → x ≡ get_or packets at x → x.from ≡ p
is-from p at packets x h e = ap (λ y. y.from) e ∙ h.is_from x

pub gets-first : (p at : ℕ) (packets : List Packet) (x : Packet) → IsFirstFrom p at packets → x ≡ get_or packets at x → from_place p packets ≡ x ∷ from_place p (remove packets at)
gets-first p at packets x h e =
    ap (from_place p) (parts-at at packets x h.below e) ∙ first-of p (take at packets) (drop (suc at) packets) x h.none (is-from p at packets x h e)

pub others-stay : (p at q : ℕ) (packets : List Packet) (x : Packet) → IsFirstFrom p at packets → x ≡ get_or packets at x → q ≢ p → from_place q (remove packets at) ≡ from_place q packets
others-stay p at q packets x h e ne =
    other-of p q (take at packets) (drop (suc at) packets) x (is-from p at packets x h e) ne ∙ sym (ap (from_place q) (parts-at at packets x h.below e))

-- one more stands behind, by what it is seen as
pub seen-push : {A : Type 0} (xs ys : List A) (a : A) (f : A → Packet) (x : Packet) → ys ≡ xs ++ a ∷ [] → f a ≡ x → map f ys ≡ map f xs ++ x ∷ []
seen-push xs ys a f x e g = ap (map f) e ∙ map-append f xs (a ∷ []) ∙ ap (λ y. map f xs ++ y ∷ []) g

-- one of the lists by place is written: one packet more stands behind, or it is as it was
pub put-there : (ls : List (List Packet)) (place : ℕ) (x : Packet) → place < length ls → GoesTo place x ls (set ls place (to_place place ls ++ x ∷ []))
put-there ls place x lt p = by (p == place) refl
  where
    by : (t : Bool) → (p == place) ≡ t → to_place p (set ls place (to_place place ls ++ x ∷ [])) ≡ cond t (to_place p ls ++ x ∷ []) (to_place p ls)
    by true t = (let is = eqb-true p place t in subst (λ q. to_place q (set ls place (to_place place ls ++ x ∷ [])) ≡ to_place q ls ++ x ∷ []) (sym is) (get_or-set_same ls place (to_place place ls ++ x ∷ []) [] lt))
    by false f = get_or-set_other ls place p (to_place place ls ++ x ∷ []) [] (eqb-false p place f)

-- the list v stands where u stood
module _ {V : Type 0} (items : V → List Packet) (vs : List V) (place : ℕ) (u v : V) (lt : place < length vs) (is : u ≡ get_or vs place u) where
  pub put-behind : (x : Packet) → items v ≡ items u ++ x ∷ [] → GoesTo place x (map items vs) (map items (set vs place v))
  put-behind x e =
      subst (GoesTo place x (map items vs)) (sym (map-set items vs place v ∙ ap (set (map items vs) place) (e ∙ ap (λ ls. ls ++ x ∷ []) there)))
      (put-there (map items vs) place x (subst (λ n. place < n) (sym (length-map vs items)) lt))
    where
      there : items u ≡ to_place place (map items vs)
      there = ap items is ∙ sym (get_or-map items vs place u [] lt)

  pub put-none : items v ≡ items u → IsSame (map items vs) (map items (set vs place v))
  put-none e p = ap (to_place p) (map-set_same items vs place v u (e ∙ ap items is))
