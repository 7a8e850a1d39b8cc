-- The packets of a network, one by one: which stand in it, and in the view of a message or a port.
use Rattle.std.proofs.Common.{ℕ, ◌≡◌, ◌==◌, Bool, true, false, cond, List, [], ◌∷◌, ◌++◌, Some, refl, sym, ◌∙◌, ap, subst, inl, inr, ◌⊎◌}
use Rattle.std.specs.List.{All, filter}
use Rattle.std.proofs.lemmas.Bool.{eqb-true, and_parts}
use Rattle.std.proofs.lemmas.List.Elements.{All-nil, All-cons}
use Rattle.chorus_ui.specs.declared.ui.Ui.{Ui}
use Rattle.chorus_ui.specs.declared.layout.Layout.{Layout}
use Rattle.chorus_entry.specs.declared.packet.Packet.{Packet}
use Rattle.chorus_world.specs.Ports.{last_of}
use Rattle.chorus_world.proofs.Ports.Paths.{IsOnItsWay}
use Rattle.law_machine.specs.declared.outgoing.Outgoing.{Outgoing}
use Rattle.law_network.specs.Packets.{is_link, first_on}
use Rattle.law_network.specs.UnderWay.{before_last}

abbrev pub IsIn : Outgoing → List Outgoing → Type 0
IsIn o [] = ⊥
IsIn o (u ∷ us) = (u ≡ o) ⊎ IsIn o us

-- this packet is the first from x to y
pub record IsOn (x y : ℕ) (k : Packet) (us : List Outgoing) : Type 0 where
  pub outgoing : Outgoing
  pub packet : outgoing.packet ≡ k
  pub from : outgoing.packet.from ≡ x
  pub to : outgoing.to ≡ y
  pub stands : IsIn outgoing us

pub first-is-on : (x y : ℕ) (us : List Outgoing) (k : Packet) → first_on x y us ≡ Some k → IsOn x y k us
first-is-on x y [] k h = absurd (cc)
first-is-on x y (u ∷ us) k h = go (is_link x y u) refl h (first-is-on x y us k)
  where
    go : (b : Bool) → is_link x y u ≡ b → cond b (Some u.packet) (first_on x y us) ≡ Some k → (first_on x y us ≡ Some k → IsOn x y k us) → IsOn x y k (u ∷ us)
    go true e f ih =
        let same : u.packet ≡ k = cc in
        let two = and_parts (u.packet.from == x) (u.to == y) e in
        record { outgoing = u; packet = same; from = eqb-true u.packet.from x two.0; to = eqb-true u.to y two.1; stands = inl refl }
    go false e f ih = let r = ih f in record { outgoing = r.outgoing; packet = r.packet; from = r.from; to = r.to; stands = inr r.stands }

pub in-view : (v : Outgoing → Bool) (o : Outgoing) (us : List Outgoing) → v o ≡ true → IsIn o us → IsIn o (filter v us)
in-view v o [] t h = h
in-view v o (u ∷ us) t (inl same) =
    subst (λ (z : Outgoing). IsIn o (cond (v z) (z ∷ filter v us) (filter v us))) (sym same)
    (subst (λ b. IsIn o (cond b (o ∷ filter v us) (filter v us))) (sym t) (inl refl))
in-view v o (u ∷ us) t (inr later) = go (v u) (in-view v o us t later)
  where
    go : (b : Bool) → IsIn o (filter v us) → IsIn o (cond b (u ∷ filter v us) (filter v us))
    go true ih = inr ih
    go false ih = ih

pub from-in : (P : Outgoing → Type 0) (us : List Outgoing) → ((o : Outgoing) → IsIn o us → P o) → All P us
from-in P [] h = All-nil P
from-in P (u ∷ us) h = All-cons P u us (h u (inl refl)) (from-in P us (λ o i. h o (inr i)))

-- The two last places of a path.

last-two : (x from to : ℕ) (ps : List ℕ) → last_of x (ps ++ from ∷ to ∷ []) ≡ to
last-two x from to [] = refl
last-two x from to (r ∷ rs) = last-two r from to rs

before-two : (x y from to : ℕ) (ps : List ℕ) → before_last x y (ps ++ from ∷ to ∷ []) ≡ from
before-two x y from to [] = refl
before-two x y from to (r ∷ rs) = before-two y r from to rs

pub moving-to : (l : Layout) (q a : Ui) (path : List ℕ) (m : IsOnItsWay l q a path) → (before_last 0 0 path ≡ m.from) × (last_of 0 path ≡ m.to)
moving-to l q a path m =
    (ap (before_last 0 0) m.is ∙ before-two 0 0 m.from m.to m.front, ap (last_of 0) m.is ∙ last-two 0 m.from m.to m.front)
