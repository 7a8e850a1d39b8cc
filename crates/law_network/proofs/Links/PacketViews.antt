-- What a packet that is put, or the first of a pair that is taken away, changes of what is asked for, of one message, and of
-- one port.
use Rattle.std.proofs.Common.{ℕ, ◌≡◌, Bool, true, false, cond, List, [], ◌∷◌, ◌++◌, Some, refl, sym, ◌∙◌, ap}
use Rattle.std.specs.List.{filter, flat_map}
use Rattle.std.proofs.lemmas.Bool.{false≢true}
use Rattle.chorus_ui.specs.declared.ui.Ui.{Ui}
use Rattle.chorus_entry.specs.declared.id.MsgId.{MsgId}
use Rattle.chorus_entry.specs.declared.packet.Packet.{Packet}
use Rattle.chorus_entry.specs.declared.packet.Cargo.{Cargo}
use Rattle.law_machine.specs.declared.outgoing.Outgoing.{Outgoing}
use Rattle.law_network.specs.Packets.{is_link, is_link_before, put, first_on, rest_on}
use Rattle.law_network.specs.UnderWay.{carries, moves, asked_in, asked_by, asked_for, is_of, is_with}
use Rattle.law_network.proofs.Links.LinkViews.{view-one, view-other, empty-here}

-- What is asked for.

kept-none : (f : Outgoing → List MsgId) (v : Outgoing → Bool) (o : Outgoing) (xs : List Outgoing) → f o ≡ [] → flat_map f (filter v (o ∷ xs)) ≡ flat_map f (filter v xs)
kept-none f v o xs h = go (v o)
  where
    go : (b : Bool) → flat_map f (cond b (o ∷ filter v xs) (filter v xs)) ≡ flat_map f (filter v xs)
    go true = ap (λ ys. ys ++ flat_map f (filter v xs)) h
    go false = refl

kept-both : (f : Outgoing → List MsgId) (v : Outgoing → Bool) (u : Outgoing) (xs ys : List Outgoing) → flat_map f (filter v xs) ≡ flat_map f (filter v ys) → flat_map f (filter v (u ∷ xs)) ≡ flat_map f (filter v (u ∷ ys))
kept-both f v u xs ys h = go (v u)
  where
    go : (b : Bool) → flat_map f (cond b (u ∷ filter v xs) (filter v xs)) ≡ flat_map f (cond b (u ∷ filter v ys) (filter v ys))
    go true = ap (λ zs. f u ++ zs) h
    go false = h

pub put-asks : (g : Ui) (a p : ℕ) (o : Outgoing) (us : List Outgoing) → asked_by g o ≡ [] → asked_for g a p (put o us) ≡ asked_for g a p us
put-asks g a p o [] h = kept-none (asked_by g) (is_link a p) o [] h
put-asks g a p o (u ∷ us) h = go (is_link_before o u) (put-asks g a p o us h)
  where
    go : (b : Bool) → asked_for g a p (put o us) ≡ asked_for g a p us → asked_for g a p (cond b (o ∷ u ∷ us) (u ∷ put o us)) ≡ asked_for g a p (u ∷ us)
    go true ih = kept-none (asked_by g) (is_link a p) o (u ∷ us) h
    go false ih = kept-both (asked_by g) (is_link a p) u (put o us) us ih

pub rest-asks : (g : Ui) (a p b c : ℕ) (us : List Outgoing) (k : Packet) → ((w : Outgoing) → w.packet ≡ k → asked_by g w ≡ []) → first_on b c us ≡ Some k → asked_for g a p (rest_on b c us) ≡ asked_for g a p us
rest-asks g a p b c [] k n h = refl
rest-asks g a p b c (u ∷ us) k n h = go (is_link b c u) h (rest-asks g a p b c us k n)
  where
    go : (z : Bool) → cond z (Some u.packet) (first_on b c us) ≡ Some k → (first_on b c us ≡ Some k → asked_for g a p (rest_on b c us) ≡ asked_for g a p us) → asked_for g a p (cond z us (u ∷ rest_on b c us)) ≡ asked_for g a p (u ∷ us)
    go true e ih = let is : u.packet ≡ k = cc in sym (kept-none (asked_by g) (is_link a p) u us (n u is))
    go false e ih = kept-both (asked_by g) (is_link a p) u (rest_on b c us) us (ih e)

-- An Ask aside, nothing is asked for by a packet.
abbrev pub is_ask : Cargo → Bool
is_ask (Cargo.Ask m d) = true
is_ask _ = false

pub no-ask : (g : Ui) (o : Outgoing) → is_ask o.packet.cargo ≡ false → asked_by g o ≡ []
no-ask g o h = none o.packet.cargo h
  where
    none : (c : Cargo) → is_ask c ≡ false → asked_in g c ≡ []
    none (Cargo.Ask m d) k = absurd (false≢true (sym k))
    none c k = refl

-- The packet that comes first on a pair, about the message x.

pub of-taken : (x : MsgId) (a b : ℕ) (us : List Outgoing) (k : Packet) (o : Outgoing) → carries x k.cargo ≡ true → first_on a b us ≡ Some k → filter (is_of x) us ≡ o ∷ []
    → (o.packet ≡ k) × ((is_link a b o ≡ true) × (filter (is_of x) (rest_on a b us) ≡ []))
of-taken x a b us k o c h e = view-one (is_of x) a b o us k (λ w l p. ap (λ (z : Packet). carries x z.cargo) p ∙ c) h e

pub of-none : (x : MsgId) (a b : ℕ) (us : List Outgoing) (k : Packet) → carries x k.cargo ≡ true → first_on a b us ≡ Some k → filter (is_of x) us ≡ [] → ⊥
of-none x a b us k c h e = empty-here (is_of x) a b us k (λ w l p. ap (λ (z : Packet). carries x z.cargo) p ∙ c) h e

pub of-other : (x : MsgId) (a b : ℕ) (us : List Outgoing) (k : Packet) → carries x k.cargo ≡ false → first_on a b us ≡ Some k → filter (is_of x) (rest_on a b us) ≡ filter (is_of x) us
of-other x a b us k c h = view-other (is_of x) a b us k (λ w l p. ap (λ (z : Packet). carries x z.cargo) p ∙ c) h

pub with-taken : (q : Ui) (a b : ℕ) (us : List Outgoing) (k : Packet) (o : Outgoing) → moves q k.cargo ≡ true → first_on a b us ≡ Some k → filter (is_with q) us ≡ o ∷ []
    → (o.packet ≡ k) × ((is_link a b o ≡ true) × (filter (is_with q) (rest_on a b us) ≡ []))
with-taken q a b us k o c h e = view-one (is_with q) a b o us k (λ w l p. ap (λ (z : Packet). moves q z.cargo) p ∙ c) h e

pub with-none : (q : Ui) (a b : ℕ) (us : List Outgoing) (k : Packet) → moves q k.cargo ≡ true → first_on a b us ≡ Some k → filter (is_with q) us ≡ [] → ⊥
with-none q a b us k c h e = empty-here (is_with q) a b us k (λ w l p. ap (λ (z : Packet). moves q z.cargo) p ∙ c) h e

pub with-other : (q : Ui) (a b : ℕ) (us : List Outgoing) (k : Packet) → moves q k.cargo ≡ false → first_on a b us ≡ Some k → filter (is_with q) (rest_on a b us) ≡ filter (is_with q) us
with-other q a b us k c h = view-other (is_with q) a b us k (λ w l p. ap (λ (z : Packet). moves q z.cargo) p ∙ c) h
