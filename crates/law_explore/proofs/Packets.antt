-- Packets put by two places, and packets taken while others are put.
use Rattle.std.proofs.Common.{ℕ, ◌≡◌, ◌==◌, nat_lt, Bool, true, false, ◌&&◌, ◌||◌, cond, List, [], ◌∷◌, Some, is_some, refl, sym, ◌∙◌, ap, arith}
use Rattle.std.specs.List.{All}
use Rattle.std.proofs.lemmas.Bool.{false≢true}
use Rattle.std.proofs.lemmas.List.Elements.{All-head, All-tail}
use Rattle.law_machine.specs.declared.outgoing.Outgoing.{Outgoing}
use Rattle.law_network.specs.Packets.{is_link, is_link_before, AreNotBefore, AreByLink, put, put_all, first_on, rest_on}
use Rattle.law_network.proofs.Links.LinkViews.{put-order}

-- the packet is put by the place p
abbrev pub IsFrom : ℕ → Outgoing → Type 0
IsFrom p o = o.packet.from ≡ p

-- Two packets of two places.

-- x is put before u, and the other before neither; and so on
swap-of : (o w u : Outgoing) (us : List Outgoing) (b c : Bool) → is_link_before o u ≡ b → is_link_before w u ≡ c
    → (o.packet.from == w.packet.from) ≡ false → put o (put w us) ≡ put w (put o us)
    → put o (cond c (w ∷ u ∷ us) (u ∷ put w us)) ≡ put w (cond b (o ∷ u ∷ us) (u ∷ put o us))
swap-of o w u us true true eo ew ne ih = which (is_link_before o w) (is_link_before w o) refl refl
  where
    one : (a b c d : ℕ) → (a == c) ≡ false → (nat_lt a c || ((a == c) && nat_lt b d)) ≡ false → (nat_lt c a || ((c == a) && nat_lt d b)) ≡ false → ⊥
    one a b c d n h k = grind (arith, n, h, k)

    two : (a b c d : ℕ) → (nat_lt a c || ((a == c) && nat_lt b d)) ≡ true → (nat_lt c a || ((c == a) && nat_lt d b)) ≡ true → ⊥
    two a b c d h k = grind (arith, h, k)

    which : (x y : Bool) → is_link_before o w ≡ x → is_link_before w o ≡ y → cond x (o ∷ w ∷ u ∷ us) (w ∷ put o (u ∷ us)) ≡ cond y (w ∷ o ∷ u ∷ us) (o ∷ put w (u ∷ us))
    which true true h k = absurd (two o.packet.from o.to w.packet.from w.to h k)
    which true false h k = ap (λ b. o ∷ cond b (w ∷ u ∷ us) (u ∷ put w us)) (sym ew)
    which false true h k = ap (λ b. w ∷ cond b (o ∷ u ∷ us) (u ∷ put o us)) eo
    which false false h k = absurd (one o.packet.from o.to w.packet.from w.to ne h k)
swap-of o w u us true false eo ew ne ih =
    ap (λ b. cond b (o ∷ u ∷ put w us) (u ∷ put o (put w us))) eo ∙ sym (step (is_link_before w o) refl)
  where
    lower : (a b c d e f : ℕ) → (nat_lt a c || ((a == c) && nat_lt b d)) ≡ true → (nat_lt e c || ((e == c) && nat_lt f d)) ≡ false → (nat_lt e a || ((e == a) && nat_lt f b)) ≡ true → ⊥
    lower a b c d e f h k j = grind (arith, h, k, j)

    step : (x : Bool) → is_link_before w o ≡ x → cond x (w ∷ o ∷ u ∷ us) (o ∷ put w (u ∷ us)) ≡ o ∷ u ∷ put w us
    step true h = absurd (lower o.packet.from o.to u.packet.from u.to w.packet.from w.to eo ew h)
    step false h = ap (λ b. o ∷ cond b (w ∷ u ∷ us) (u ∷ put w us)) ew
swap-of o w u us false true eo ew ne ih =
    step (is_link_before o w) refl ∙ sym (ap (λ b. cond b (w ∷ u ∷ put o us) (u ∷ put w (put o us))) ew)
  where
    lower : (a b c d e f : ℕ) → (nat_lt a c || ((a == c) && nat_lt b d)) ≡ true → (nat_lt e c || ((e == c) && nat_lt f d)) ≡ false → (nat_lt e a || ((e == a) && nat_lt f b)) ≡ true → ⊥
    lower a b c d e f h k j = grind (arith, h, k, j)

    step : (x : Bool) → is_link_before o w ≡ x → cond x (o ∷ w ∷ u ∷ us) (w ∷ put o (u ∷ us)) ≡ w ∷ u ∷ put o us
    step true h = absurd (lower w.packet.from w.to u.packet.from u.to o.packet.from o.to ew eo h)
    step false h = ap (λ b. w ∷ cond b (o ∷ u ∷ us) (u ∷ put o us)) eo
swap-of o w u us false false eo ew ne ih =
    ap (λ b. cond b (o ∷ u ∷ put w us) (u ∷ put o (put w us))) eo ∙ ap (λ vs. u ∷ vs) ih ∙ sym (ap (λ b. cond b (w ∷ u ∷ put o us) (u ∷ put w (put o us))) ew)

-- both into no packets
swap-nil : (o w : Outgoing) → (o.packet.from == w.packet.from) ≡ false → put o (w ∷ []) ≡ put w (o ∷ [])
swap-nil o w ne = which (is_link_before o w) (is_link_before w o) refl refl
  where
    one : (a b c d : ℕ) → (a == c) ≡ false → (nat_lt a c || ((a == c) && nat_lt b d)) ≡ false → (nat_lt c a || ((c == a) && nat_lt d b)) ≡ false → ⊥
    one a b c d n h k = grind (arith, n, h, k)

    two : (a b c d : ℕ) → (nat_lt a c || ((a == c) && nat_lt b d)) ≡ true → (nat_lt c a || ((c == a) && nat_lt d b)) ≡ true → ⊥
    two a b c d h k = grind (arith, h, k)

    which : (x y : Bool) → is_link_before o w ≡ x → is_link_before w o ≡ y → cond x (o ∷ w ∷ []) (w ∷ o ∷ []) ≡ cond y (w ∷ o ∷ []) (o ∷ w ∷ [])
    which true true h k = absurd (two o.packet.from o.to w.packet.from w.to h k)
    which true false h k = refl
    which false true h k = refl
    which false false h k = absurd (one o.packet.from o.to w.packet.from w.to ne h k)

pub put-swap : (o w : Outgoing) (us : List Outgoing) → (o.packet.from == w.packet.from) ≡ false → put o (put w us) ≡ put w (put o us)
put-swap o w [] ne = swap-nil o w ne
put-swap o w (u ∷ us) ne = swap-of o w u us (is_link_before o u) (is_link_before w u) refl refl ne (put-swap o w us ne)

put-past : (p q : ℕ) (o : Outgoing) (ws us : List Outgoing) → IsFrom p o → All (IsFrom q) ws → (p == q) ≡ false → put_all ws (put o us) ≡ put o (put_all ws us)
put-past p q o [] us from all ne = refl
put-past p q o (w ∷ ws) us from all ne =
    let own : w.packet.from ≡ q = All-head (IsFrom q) w ws all in
    let two : (o.packet.from == w.packet.from) ≡ false = ap (λ i. i == w.packet.from) from ∙ ap (λ j. p == j) own ∙ ne in
    ap (put_all ws) (sym (put-swap o w us two)) ∙ put-past p q o ws (put w us) from (All-tail (IsFrom q) w ws all) ne

pub put-all-swap : (p q : ℕ) (os ws us : List Outgoing) → All (IsFrom p) os → All (IsFrom q) ws → (p == q) ≡ false → put_all os (put_all ws us) ≡ put_all ws (put_all os us)
put-all-swap p q [] ws us all every ne = refl
put-all-swap p q (o ∷ os) ws us all every ne =
    ap (put_all os) (sym (put-past p q o ws us (All-head (IsFrom p) o os all) every ne))
    ∙ put-all-swap p q os ws (put o us) (All-tail (IsFrom p) o os all) every ne

-- A packet that is there is the first of its pair, and the rest the rest, whatever is put.

before-link : (o u : Outgoing) (a b : ℕ) → is_link_before o u ≡ true → (w : Outgoing) → is_link a b w ≡ true → is_link_before w u ≡ false → is_link a b o ≡ true → ⊥
before-link o u a b h w on k l = far o.packet.from o.to u.packet.from u.to w.packet.from w.to a b h on k l
  where
    far : (x y c d e f a b : ℕ) → (nat_lt x c || ((x == c) && nat_lt y d)) ≡ true → ((e == a) && (f == b)) ≡ true → (nat_lt e c || ((e == c) && nat_lt f d)) ≡ false → ((x == a) && (y == b)) ≡ true → ⊥
    far x y c d e f a b h on k l = grind (arith, h, on, k, l)

-- what is before a packet is not on a pair that has one behind that
not-on : (o u : Outgoing) (a b : ℕ) (us : List Outgoing) → is_link_before o u ≡ true → AreNotBefore u us → is_some (first_on a b us) ≡ true → is_link a b o ≡ true → ⊥
not-on o u a b [] h n some l = absurd (false≢true some)
not-on o u a b (w ∷ us) h n some l = by (is_link a b w) refl some (λ s. not-on o u a b us h n.1 s l)
  where
    by : (c : Bool) → is_link a b w ≡ c → is_some (cond c (Some w.packet) (first_on a b us)) ≡ true → (is_some (first_on a b us) ≡ true → ⊥) → ⊥
    by true on s ih = before-link o u a b h w on n.0 l
    by false off s ih = ih s

itself-not : (o u : Outgoing) (a b : ℕ) → is_link_before o u ≡ true → is_link a b u ≡ true → is_link a b o ≡ true → ⊥
itself-not o u a b h on l = far o.packet.from o.to u.packet.from u.to a b h on l
  where
    far : (x y c d a b : ℕ) → (nat_lt x c || ((x == c) && nat_lt y d)) ≡ true → ((c == a) && (d == b)) ≡ true → ((x == a) && (y == b)) ≡ true → ⊥
    far x y c d a b h on l = grind (arith, h, on, l)

none-on : (o u : Outgoing) (a b : ℕ) (us : List Outgoing) → is_link_before o u ≡ true → AreByLink (u ∷ us) → is_some (first_on a b (u ∷ us)) ≡ true → is_link a b o ≡ false
none-on o u a b us h order some = by (is_link a b o) (is_link a b u) refl refl some
  where
    by : (c d : Bool) → is_link a b o ≡ c → is_link a b u ≡ d → is_some (cond d (Some u.packet) (first_on a b us)) ≡ true → is_link a b o ≡ false
    by false d off e s = off
    by true true on e s = absurd (itself-not o u a b h e on)
    by true false on e s = absurd (not-on o u a b us h order.0 s on)

pub first-put : (a b : ℕ) (o : Outgoing) (us : List Outgoing) → AreByLink us → is_some (first_on a b us) ≡ true → first_on a b (put o us) ≡ first_on a b us
first-put a b o [] order some = absurd (false≢true some)
first-put a b o (u ∷ us) order some = by (first-put a b o us order.1) (is_link_before o u) refl
  where
    behind : (is_some (first_on a b us) ≡ true → first_on a b (put o us) ≡ first_on a b us) → (d : Bool) → is_some (cond d (Some u.packet) (first_on a b us)) ≡ true → cond d (Some u.packet) (first_on a b (put o us)) ≡ cond d (Some u.packet) (first_on a b us)
    behind ih true s = refl
    behind ih false s = ih s

    by : (is_some (first_on a b us) ≡ true → first_on a b (put o us) ≡ first_on a b us) → (c : Bool) → is_link_before o u ≡ c → first_on a b (cond c (o ∷ u ∷ us) (u ∷ put o us)) ≡ first_on a b (u ∷ us)
    by ih true h = ap (λ d. cond d (Some o.packet) (first_on a b (u ∷ us))) (none-on o u a b us h order some)
    by ih false h = behind ih (is_link a b u) some

-- put before a packet, so before the rest behind it
put-front : (o u : Outgoing) (us : List Outgoing) → is_link_before o u ≡ true → AreNotBefore u us → put o us ≡ o ∷ us
put-front o u [] h n = refl
put-front o u (w ∷ us) h n = ap (λ c. cond c (o ∷ w ∷ us) (w ∷ put o us)) (through o.packet.from o.to u.packet.from u.to w.packet.from w.to h n.0)
  where
    through : (x y c d e f : ℕ) → (nat_lt x c || ((x == c) && nat_lt y d)) ≡ true → (nat_lt e c || ((e == c) && nat_lt f d)) ≡ false → (nat_lt x e || ((x == e) && nat_lt y f)) ≡ true
    through x y c d e f h k = grind (arith, h, k)

pub rest-put : (a b : ℕ) (o : Outgoing) (us : List Outgoing) → AreByLink us → is_some (first_on a b us) ≡ true → rest_on a b (put o us) ≡ put o (rest_on a b us)
rest-put a b o [] order some = absurd (false≢true some)
rest-put a b o (u ∷ us) order some = by (rest-put a b o us order.1) (is_link_before o u) refl
  where
    front : is_link_before o u ≡ true → (d : Bool) → o ∷ cond d us (u ∷ rest_on a b us) ≡ put o (cond d us (u ∷ rest_on a b us))
    front h true = sym (put-front o u us h order.0)
    front h false = sym (ap (λ c. cond c (o ∷ u ∷ rest_on a b us) (u ∷ put o (rest_on a b us))) h)

    behind : (is_some (first_on a b us) ≡ true → rest_on a b (put o us) ≡ put o (rest_on a b us)) → is_link_before o u ≡ false → (d : Bool) → is_some (cond d (Some u.packet) (first_on a b us)) ≡ true
        → cond d (put o us) (u ∷ rest_on a b (put o us)) ≡ put o (cond d us (u ∷ rest_on a b us))
    behind ih h true s = refl
    behind ih h false s =
        ap (λ vs. u ∷ vs) (ih s)
        ∙ sym (ap (λ c. cond c (o ∷ u ∷ rest_on a b us) (u ∷ put o (rest_on a b us))) h)

    by : (is_some (first_on a b us) ≡ true → rest_on a b (put o us) ≡ put o (rest_on a b us)) → (c : Bool) → is_link_before o u ≡ c → rest_on a b (cond c (o ∷ u ∷ us) (u ∷ put o us)) ≡ put o (rest_on a b (u ∷ us))
    by ih true h =
        ap (λ d. cond d (u ∷ us) (o ∷ rest_on a b (u ∷ us))) (none-on o u a b us h order some) ∙ front h (is_link a b u)
    by ih false h = behind ih h (is_link a b u) some

pub order-all : (os us : List Outgoing) → AreByLink us → AreByLink (put_all os us)
order-all [] us order = order
order-all (o ∷ os) us order = order-all os (put o us) (put-order o us order)

pub first-put-all : (a b : ℕ) (os us : List Outgoing) → AreByLink us → is_some (first_on a b us) ≡ true → first_on a b (put_all os us) ≡ first_on a b us
first-put-all a b [] us order some = refl
first-put-all a b (o ∷ os) us order some =
    let same = first-put a b o us order some in
    first-put-all a b os (put o us) (put-order o us order) (ap is_some same ∙ some) ∙ same

pub rest-put-all : (a b : ℕ) (os us : List Outgoing) → AreByLink us → is_some (first_on a b us) ≡ true → rest_on a b (put_all os us) ≡ put_all os (rest_on a b us)
rest-put-all a b [] us order some = refl
rest-put-all a b (o ∷ os) us order some =
    rest-put-all a b os (put o us) (put-order o us order) (ap is_some (first-put a b o us order some) ∙ some)
    ∙ ap (put_all os) (rest-put a b o us order some)

-- Packets to two places, taken in either order.

two-links : (a b c d : ℕ) (u : Outgoing) → (b == d) ≡ false → is_link a b u ≡ true → is_link c d u ≡ true → ⊥
two-links a b c d u ne h k = far a b c d u.packet.from u.to ne h k
  where
    far : (a b c d x y : ℕ) → (b == d) ≡ false → ((x == a) && (y == b)) ≡ true → ((x == c) && (y == d)) ≡ true → ⊥
    far a b c d x y ne h k = grind (arith, ne, h, k)

pub first-rest : (a b c d : ℕ) (us : List Outgoing) → (b == d) ≡ false → first_on a b (rest_on c d us) ≡ first_on a b us
first-rest a b c d [] ne = refl
first-rest a b c d (u ∷ us) ne = by (is_link a b u) (is_link c d u) refl refl (first-rest a b c d us ne)
  where
    by : (x y : Bool) → is_link a b u ≡ x → is_link c d u ≡ y → first_on a b (rest_on c d us) ≡ first_on a b us → first_on a b (cond y us (u ∷ rest_on c d us)) ≡ cond x (Some u.packet) (first_on a b us)
    by true true h k ih = absurd (two-links a b c d u ne h k)
    by false true h k ih = refl
    by true false h k ih = ap (λ z. cond z (Some u.packet) (first_on a b (rest_on c d us))) h
    by false false h k ih = ap (λ z. cond z (Some u.packet) (first_on a b (rest_on c d us))) h ∙ ih

pub rest-rest : (a b c d : ℕ) (us : List Outgoing) → (b == d) ≡ false → rest_on a b (rest_on c d us) ≡ rest_on c d (rest_on a b us)
rest-rest a b c d [] ne = refl
rest-rest a b c d (u ∷ us) ne = by (is_link a b u) (is_link c d u) refl refl (rest-rest a b c d us ne)
  where
    by : (x y : Bool) → is_link a b u ≡ x → is_link c d u ≡ y → rest_on a b (rest_on c d us) ≡ rest_on c d (rest_on a b us)
        → rest_on a b (cond y us (u ∷ rest_on c d us)) ≡ rest_on c d (cond x us (u ∷ rest_on a b us))
    by true true h k ih = absurd (two-links a b c d u ne h k)
    by false true h k ih = sym (ap (λ z. cond z (rest_on a b us) (u ∷ rest_on c d (rest_on a b us))) k)
    by true false h k ih = ap (λ z. cond z (rest_on c d us) (u ∷ rest_on a b (rest_on c d us))) h
    by false false h k ih =
        ap (λ z. cond z (rest_on c d us) (u ∷ rest_on a b (rest_on c d us))) h ∙ ap (λ vs. u ∷ vs) ih
        ∙ sym (ap (λ z. cond z (rest_on a b us) (u ∷ rest_on c d (rest_on a b us))) k)
