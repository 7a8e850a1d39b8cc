-- What one packet more, or the first of a pair less, changes of each view of the packets.
use Rattle.std.proofs.Common.{ℕ, ◌≡◌, Bool, true, false, cond, List, [], ◌∷◌, Some, refl, sym, ◌∙◌, ap, arith, nat_lt, ◌==◌, ◌&&◌, ◌||◌, ◌++◌}
use Rattle.std.specs.List.{filter}
use Rattle.std.proofs.lemmas.Bool.{false≢true}
use Rattle.chorus_entry.specs.declared.packet.Packet.{Packet}
use Rattle.law_machine.specs.declared.outgoing.Outgoing.{Outgoing}
use Rattle.law_network.specs.Packets.{is_link, is_link_before, AreNotBefore, AreByLink, put, first_on, rest_on}

without : (v : Outgoing → Bool) (o : Outgoing) (us : List Outgoing) → v o ≡ false → filter v (o ∷ us) ≡ filter v us
without v o us h = ap (λ b. cond b (o ∷ filter v us) (filter v us)) h

within : (v : Outgoing → Bool) (o : Outgoing) (us : List Outgoing) → v o ≡ true → filter v (o ∷ us) ≡ o ∷ filter v us
within v o us h = ap (λ b. cond b (o ∷ filter v us) (filter v us)) h

behind : (v : Outgoing → Bool) (u : Outgoing) (xs ys : List Outgoing) → filter v xs ≡ filter v ys → filter v (u ∷ xs) ≡ filter v (u ∷ ys)
behind v u xs ys h = ap (λ z. cond (v u) (u ∷ z) z) h

-- a packet that is not in the view leaves it as it is
out-at : (v : Outgoing → Bool) (o u : Outgoing) (us : List Outgoing) (b : Bool) → v o ≡ false → filter v (put o us) ≡ filter v us →
    filter v (cond b (o ∷ u ∷ us) (u ∷ put o us)) ≡ filter v (u ∷ us)
out-at v o u us true h ih = without v o (u ∷ us) h
out-at v o u us false h ih = behind v u (put o us) us ih

pub put-out : (v : Outgoing → Bool) (o : Outgoing) (us : List Outgoing) → v o ≡ false → filter v (put o us) ≡ filter v us
put-out v o [] h = without v o [] h
put-out v o (u ∷ us) h = out-at v o u us (is_link_before o u) h (put-out v o us h)

-- one that is in an empty view is the view
none-front : (v : Outgoing → Bool) (u : Outgoing) (us : List Outgoing) (b : Bool) → v u ≡ b → filter v (u ∷ us) ≡ [] → (v u ≡ false) × (filter v us ≡ [])
none-front v u us true e h = let f : u ∷ filter v us ≡ [] = sym (within v u us e) ∙ h in absurd (cc)
none-front v u us false e h = (e, sym (without v u us e) ∙ h)

in-at : (v : Outgoing → Bool) (o u : Outgoing) (us : List Outgoing) (b : Bool) → v o ≡ true → v u ≡ false → filter v us ≡ [] → filter v (put o us) ≡ o ∷ [] →
    filter v (cond b (o ∷ u ∷ us) (u ∷ put o us)) ≡ o ∷ []
in-at v o u us true h f e ih = within v o (u ∷ us) h ∙ ap (λ z. o ∷ z) (without v u us f ∙ e)
in-at v o u us false h f e ih = without v u (put o us) f ∙ ih

pub put-in : (v : Outgoing → Bool) (o : Outgoing) (us : List Outgoing) → v o ≡ true → filter v us ≡ [] → filter v (put o us) ≡ o ∷ []
put-in v o [] h e = within v o [] h
put-in v o (u ∷ us) h e =
    let f = none-front v u us (v u) refl e in
    in-at v o u us (is_link_before o u) h f.0 f.1 (put-in v o us h f.1)

-- the first packet of a pair is the head of each view that lies on the pair and that it is in, and the rest is the tail
head-at : (v : Outgoing → Bool) (a b : ℕ) (u : Outgoing) (us : List Outgoing) (k : Packet) (l n : Bool) → is_link a b u ≡ l → v u ≡ n → (n ≡ true → l ≡ true) →
    ((w : Outgoing) → is_link a b w ≡ true → w.packet ≡ k → v w ≡ true) →
    cond l (Some u.packet) (first_on a b us) ≡ Some k →
    (first_on a b us ≡ Some k → (w : Outgoing) × (w.packet ≡ k) × (filter v us ≡ w ∷ filter v (rest_on a b us))) →
    (w : Outgoing) × (w.packet ≡ k) × (filter v (u ∷ us) ≡ w ∷ filter v (cond l us (u ∷ rest_on a b us)))
head-at v a b u us k true n el en s m h ih = let e : u.packet ≡ k = cc in (u, e, within v u us (m u el e))
head-at v a b u us k false true el en s m h ih = absurd (false≢true (s refl))
head-at v a b u us k false false el en s m h ih =
    let r = ih h in (r.0, r.1, without v u us en ∙ (r.2 ∙ ap (λ z. r.0 ∷ z) (sym (without v u (rest_on a b us) en))))

pub view-head : (v : Outgoing → Bool) (a b : ℕ) (us : List Outgoing) (k : Packet) →
    ((w : Outgoing) → v w ≡ true → is_link a b w ≡ true) → ((w : Outgoing) → is_link a b w ≡ true → w.packet ≡ k → v w ≡ true) →
    first_on a b us ≡ Some k → (w : Outgoing) × (w.packet ≡ k) × (filter v us ≡ w ∷ filter v (rest_on a b us))
view-head v a b [] k s m h = absurd (cc)
view-head v a b (u ∷ us) k s m h = head-at v a b u us k (is_link a b u) (v u) refl refl (s u) m h (view-head v a b us k s m)

-- Order. A packet that goes before a second one, which is not after a third one, goes before the third one.
pub before-all : (a b c d e f : ℕ) → (nat_lt a c || ((a == c) && nat_lt b d)) ≡ true → (nat_lt e c || ((e == c) && nat_lt f d)) ≡ false → (nat_lt e a || ((e == a) && nat_lt f b)) ≡ false
before-all a b c d e f h k = grind (arith, h, k)

itself : (a b : ℕ) → (nat_lt a a || ((a == a) && nat_lt b b)) ≡ false
itself a b = grind (arith)

on-link : (a b c d e f : ℕ) → ((e == a) && (f == b)) ≡ true → (nat_lt a c || ((a == c) && nat_lt b d)) ≡ true → (nat_lt e c || ((e == c) && nat_lt f d)) ≡ false → ⊥
on-link a b c d e f g h k = grind (arith, g, h, k)

last-kept : (v : Outgoing → Bool) (o u : Outgoing) (us : List Outgoing) (b : Bool) → v u ≡ b → filter v (put o us) ≡ filter v us ++ o ∷ [] → filter v (u ∷ put o us) ≡ filter v (u ∷ us) ++ o ∷ []
last-kept v o u us true e ih = within v u (put o us) e ∙ ap (λ z. u ∷ z) ih ∙ sym (ap (λ z. z ++ o ∷ []) (within v u us e))
last-kept v o u us false e ih = without v u (put o us) e ∙ ih ∙ sym (ap (λ z. z ++ o ∷ []) (without v u us e))

all-at : (x o u : Outgoing) (us : List Outgoing) (b : Bool) → is_link_before o x ≡ false → is_link_before u x ≡ false → AreNotBefore x us → AreNotBefore x (put o us) → AreNotBefore x (cond b (o ∷ u ∷ us) (u ∷ put o us))
all-at x o u us true h k a ih = (h, (k, a))
all-at x o u us false h k a ih = (k, ih)

all-put : (x o : Outgoing) (us : List Outgoing) → is_link_before o x ≡ false → AreNotBefore x us → AreNotBefore x (put o us)
all-put x o [] h a = (h, tt)
all-put x o (u ∷ us) h a = all-at x o u us (is_link_before o u) h a.0 a.1 (all-put x o us h a.1)

none-before : (o u : Outgoing) (us : List Outgoing) → is_link_before o u ≡ true → AreNotBefore u us → AreNotBefore o us
none-before o u [] h a = tt
none-before o u (w ∷ us) h a =
    (before-all o.packet.from o.to u.packet.from u.to w.packet.from w.to h a.0, none-before o u us h a.1)

order-at : (o u : Outgoing) (us : List Outgoing) (b : Bool) → is_link_before o u ≡ b → AreByLink (u ∷ us) → AreByLink (put o us) → AreByLink (cond b (o ∷ u ∷ us) (u ∷ put o us))
order-at o u us true e h ih =
    ((before-all o.packet.from o.to u.packet.from u.to u.packet.from u.to e (itself u.packet.from u.to), none-before o u us e h.0), h)
order-at o u us false e h ih = (all-put u o us e h.0, ih)

-- the packets stand by their pairs with one more
pub put-order : (o : Outgoing) (us : List Outgoing) → AreByLink us → AreByLink (put o us)
put-order o [] h = (tt, tt)
put-order o (u ∷ us) h = order-at o u us (is_link_before o u) refl h (put-order o us h.1)

-- a view that lies on one pair gets it as its last
off : (v : Outgoing → Bool) (o u : Outgoing) → ((w : Outgoing) → v w ≡ true → is_link o.packet.from o.to w ≡ true) → is_link_before o u ≡ true → (w : Outgoing) → is_link_before w u ≡ false → (b : Bool) → v w ≡ b → v w ≡ false
off v o u s h w k true e = absurd (on-link o.packet.from o.to u.packet.from u.to w.packet.from w.to (s w e) h k)
off v o u s h w k false e = e

none-left : (v : Outgoing → Bool) (o u : Outgoing) (us : List Outgoing) → ((w : Outgoing) → v w ≡ true → is_link o.packet.from o.to w ≡ true) → is_link_before o u ≡ true
    → AreNotBefore u us → filter v us ≡ []
none-left v o u [] s h a = refl
none-left v o u (w ∷ us) s h a = without v w us (off v o u s h w a.0 (v w) refl) ∙ none-left v o u us s h a.1

last-at : (v : Outgoing → Bool) (o u : Outgoing) (us : List Outgoing) (b : Bool) → is_link_before o u ≡ b → ((w : Outgoing) → v w ≡ true → is_link o.packet.from o.to w ≡ true) → v o ≡ true
    → AreByLink (u ∷ us) → filter v (put o us) ≡ filter v us ++ o ∷ [] → filter v (cond b (o ∷ u ∷ us) (u ∷ put o us)) ≡ filter v (u ∷ us) ++ o ∷ []
last-at v o u us true e s h a ih =
    let none = none-left v o u (u ∷ us) s e (itself u.packet.from u.to, a.0) in
    within v o (u ∷ us) h ∙ ap (λ z. o ∷ z) none ∙ sym (ap (λ z. z ++ o ∷ []) none)
last-at v o u us false e s h a ih = last-kept v o u us (v u) refl ih

pub put-last : (v : Outgoing → Bool) (o : Outgoing) (us : List Outgoing) → ((w : Outgoing) → v w ≡ true → is_link o.packet.from o.to w ≡ true) → v o ≡ true → AreByLink us → filter v (put o us) ≡ filter v us ++ o ∷ []
put-last v o [] s h a = within v o [] h
put-last v o (u ∷ us) s h a = last-at v o u us (is_link_before o u) refl s h a (put-last v o us s h a.1)

-- A view of one packet, the first of its pair, is empty without it; one that it is not in stays.

pub empty-here : (v : Outgoing → Bool) (a b : ℕ) (us : List Outgoing) (k : Packet) → ((w : Outgoing) → is_link a b w ≡ true → w.packet ≡ k → v w ≡ true) → first_on a b us ≡ Some k → filter v us ≡ [] → ⊥
empty-here v a b [] k m h e = absurd (cc)
empty-here v a b (u ∷ us) k m h e = by (is_link a b u) refl h (λ g. empty-here v a b us k m g (none-front v u us (v u) refl e).1)
  where
    by : (l : Bool) → is_link a b u ≡ l → cond l (Some u.packet) (first_on a b us) ≡ Some k → (first_on a b us ≡ Some k → ⊥) → ⊥
    by true el h ih = let g : u.packet ≡ k = cc in let f : u ∷ filter v us ≡ [] = sym (within v u us (m u el g)) ∙ e in absurd (cc)
    by false el h ih = ih h

one-at : (v : Outgoing → Bool) (a b : ℕ) (u o : Outgoing) (us : List Outgoing) (k : Packet) (l n : Bool) → is_link a b u ≡ l → v u ≡ n
    → ((w : Outgoing) → is_link a b w ≡ true → w.packet ≡ k → v w ≡ true) → cond l (Some u.packet) (first_on a b us) ≡ Some k → filter v (u ∷ us) ≡ o ∷ []
    → (first_on a b us ≡ Some k → filter v us ≡ o ∷ [] → (o.packet ≡ k) × ((is_link a b o ≡ true) × (filter v (rest_on a b us) ≡ [])))
    → (o.packet ≡ k) × ((is_link a b o ≡ true) × (filter v (cond l us (u ∷ rest_on a b us)) ≡ []))
one-at v a b u o us k true n el en m h e ih =
    let g : u.packet ≡ k = cc in
    let f : u ∷ filter v us ≡ o ∷ [] = sym (within v u us (m u el g)) ∙ e in
    let same : u ≡ o = cc in
    let none : filter v us ≡ [] = cc in
    (ap (λ w. w.packet) (sym same) ∙ g, (ap (λ w. is_link a b w) (sym same) ∙ el, none))
one-at v a b u o us k false true el en m h e ih =
    let f : u ∷ filter v us ≡ o ∷ [] = sym (within v u us en) ∙ e in
    let none : filter v us ≡ [] = cc in
    absurd (empty-here v a b us k m h none)
one-at v a b u o us k false false el en m h e ih =
    let r = ih h (sym (without v u us en) ∙ e) in (r.0, (r.1.0, without v u (rest_on a b us) en ∙ r.1.1))

pub view-one : (v : Outgoing → Bool) (a b : ℕ) (o : Outgoing) (us : List Outgoing) (k : Packet)
    → ((w : Outgoing) → is_link a b w ≡ true → w.packet ≡ k → v w ≡ true) → first_on a b us ≡ Some k → filter v us ≡ o ∷ []
    → (o.packet ≡ k) × ((is_link a b o ≡ true) × (filter v (rest_on a b us) ≡ []))
view-one v a b o [] k m h e = absurd (cc)
view-one v a b o (u ∷ us) k m h e = one-at v a b u o us k (is_link a b u) (v u) refl refl m h e (view-one v a b o us k m)

other-at : (v : Outgoing → Bool) (a b : ℕ) (u : Outgoing) (us : List Outgoing) (k : Packet) (l : Bool) → is_link a b u ≡ l
    → ((w : Outgoing) → is_link a b w ≡ true → w.packet ≡ k → v w ≡ false) → cond l (Some u.packet) (first_on a b us) ≡ Some k
    → (first_on a b us ≡ Some k → filter v (rest_on a b us) ≡ filter v us) → filter v (cond l us (u ∷ rest_on a b us)) ≡ filter v (u ∷ us)
other-at v a b u us k true el m h ih = let g : u.packet ≡ k = cc in sym (without v u us (m u el g))
other-at v a b u us k false el m h ih = behind v u (rest_on a b us) us (ih h)

pub view-other : (v : Outgoing → Bool) (a b : ℕ) (us : List Outgoing) (k : Packet)
    → ((w : Outgoing) → is_link a b w ≡ true → w.packet ≡ k → v w ≡ false) → first_on a b us ≡ Some k → filter v (rest_on a b us) ≡ filter v us
view-other v a b [] k m h = absurd (cc)
view-other v a b (u ∷ us) k m h = other-at v a b u us k (is_link a b u) refl m h (view-other v a b us k m)

-- The packets stand by their pairs of places without the first of a pair.

rest-behind : (x : Outgoing) (a b : ℕ) (us : List Outgoing) → AreNotBefore x us → AreNotBefore x (rest_on a b us)
rest-behind x a b [] h = h
rest-behind x a b (u ∷ us) h = by (is_link a b u) (rest-behind x a b us h.1)
  where
    by : (c : Bool) → AreNotBefore x (rest_on a b us) → AreNotBefore x (cond c us (u ∷ rest_on a b us))
    by true ih = h.1
    by false ih = (h.0, ih)

pub rest-order : (a b : ℕ) (us : List Outgoing) → AreByLink us → AreByLink (rest_on a b us)
rest-order a b [] h = h
rest-order a b (u ∷ us) h = by (is_link a b u) (rest-order a b us h.1)
  where
    by : (c : Bool) → AreByLink (rest_on a b us) → AreByLink (cond c us (u ∷ rest_on a b us))
    by true ih = h.1
    by false ih = (rest-behind u a b us h.0, ih)
