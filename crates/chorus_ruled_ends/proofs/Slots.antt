-- The ends of all places, when one place gets an end.
-- a and b are the places that are linked, p and q are any places, all are the ends of each place.
use Rattle.std.proofs.Common.{ℕ, ◌≡◌, ◌≢◌, ◌+◌, ◌-◌, ◌<◌, ◌≤◌, ◌==◌, ◌⊎◌, ◌++◌, Bool, true, false, List, [], ◌∷◌, length, get_or, set, Some, None, refl, sym, ◌∙◌, ap, subst, arith}
use Rattle.std.proofs.lemmas.Bool.{eqb-true, eqb-false}
use Rattle.std.proofs.lemmas.List.{length-set, get_or-set_same, get_or-set_other, get_or_read}
use Rattle.chorus_entry.specs.declared.packet.Packet.{Packet}
use Rattle.chorus_link.specs.declared.ends.SendEnd.{SendEnd}
use Rattle.chorus_link.specs.declared.ends.RecvEnd.{RecvEnd}
use Rattle.chorus_link.specs.Ends.{send_link, recv_link, fulls_of, empties_of, room, AreNew}
use Rattle.chorus_ui.specs.declared.limits.TheConstants.{LINK_LIMIT}
use Rattle.chorus_ruled_ends.specs.Ruled.{Ruled, end_to, end_from}
use Rattle.chorus_ruled_ends.specs.Linked.{no_ends, of_place, out_of, into_of, HaveSlots, LinksOne}

-- the ends of the place a are set
module _ (all : List Ruled) (a : ℕ) (r : Ruled) (one : 1 ≤ a) (most : a ≤ length all) where
  pub here : of_place a (set all (a - 1) r) ≡ r
  here = get_or-set_same all (a - 1) r no_ends (omega (arith, one, most))

  pub elsewhere : (p : ℕ) → 1 ≤ p → p ≢ a → of_place p (set all (a - 1) r) ≡ of_place p all
  elsewhere p from ne = get_or-set_other all (a - 1) (p - 1) r no_ends (λ e. ne (omega (arith, one, from, e)))

-- one field of each place, where that of the place a does not change
pub field-kept : {X : Type 0} (field : Ruled → X) (all : List Ruled) (a p : ℕ) (r : Ruled) → 1 ≤ a → a ≤ length all → 1 ≤ p → field r ≡ field (of_place a all) → field (of_place p (set all (a - 1) r)) ≡ field (of_place p all)
field-kept field all a p r one most from e = by (p == a) refl
  where
    by : (t : Bool) → (p == a) ≡ t → field (of_place p (set all (a - 1) r)) ≡ field (of_place p all)
    by true t = (let is = eqb-true p a t in ap (λ q. field (of_place q (set all (a - 1) r))) is ∙ ap field (here all a r one most) ∙ e ∙ sym (ap (λ q. field (of_place q all)) is))
    by false f = ap field (elsewhere all a r one most p from (eqb-false p a f))

-- two steps: the place a gets the end of the link to b, the place b that of the link from a
abbrev pub after_out : ℕ → ℕ → SendEnd Packet → List Ruled → List Ruled
after_out a b send all = set all (a - 1) (record (of_place a all) { out = set (of_place a all).out b (Some send) })

abbrev pub after_into : ℕ → ℕ → RecvEnd Packet → List Ruled → List Ruled
after_into a b recv all = set all (b - 1) (record (of_place b all) { into = set (of_place b all).into a (Some recv) })

module _ (places a b : ℕ) (all : List Ruled) (slots : HaveSlots (places + 1) places all) (a1 : 1 ≤ a) (am : a ≤ places) (b1 : 1 ≤ b) (bm : b ≤ places) where
  a-in : a ≤ length all
  a-in = subst (λ n. a ≤ n) (sym slots.count) am

  b-in : b ≤ length all
  b-in = subst (λ n. b ≤ n) (sym slots.count) bm

  pub out-slots : (send : SendEnd Packet) → HaveSlots (places + 1) places (after_out a b send all)
  out-slots send = record {
    count = length-set all (a - 1) _ ∙ slots.count;
    out = λ p p1 pm.
        field-kept (λ r. length r.out) all a p (record (of_place a all) { out = set (of_place a all).out b (Some send) }) a1 a-in p1 (length-set (of_place a all).out b (Some send))
        ∙ slots.out p p1 pm;
    into = λ p p1 pm. field-kept (λ r. length r.into) all a p (record (of_place a all) { out = set (of_place a all).out b (Some send) }) a1 a-in p1 refl ∙ slots.into p p1 pm;
  }

  pub into-slots : (recv : RecvEnd Packet) → HaveSlots (places + 1) places (after_into a b recv all)
  into-slots recv = record {
    count = length-set all (b - 1) _ ∙ slots.count;
    out = λ p p1 pm. field-kept (λ r. length r.out) all b p (record (of_place b all) { into = set (of_place b all).into a (Some recv) }) b1 b-in p1 refl ∙ slots.out p p1 pm;
    into = λ p p1 pm.
        field-kept (λ r. length r.into) all b p (record (of_place b all) { into = set (of_place b all).into a (Some recv) }) b1 b-in p1 (length-set (of_place b all).into a (Some recv))
        ∙ slots.into p p1 pm;
  }

  -- the end that was set, and the others
  pub out-here : (send : SendEnd Packet) → out_of a b (after_out a b send all) ≡ Some send
  out-here send =
      ap (end_to b) (here all a (record (of_place a all) { out = set (of_place a all).out b (Some send) }) a1 a-in)
      ∙ get_or-set_same (of_place a all).out b (Some send) None (let l = slots.out a a1 am in omega (arith, l, bm))

  pub into-here : (recv : RecvEnd Packet) → into_of a b (after_into a b recv all) ≡ Some recv
  into-here recv =
      ap (end_from a) (here all b (record (of_place b all) { into = set (of_place b all).into a (Some recv) }) b1 b-in)
      ∙ get_or-set_same (of_place b all).into a (Some recv) None (let l = slots.into b b1 bm in omega (arith, l, am))

  pub out-other : (send : SendEnd Packet) (p q : ℕ) → 1 ≤ p → ((p ≡ a) × (q ≡ b) → ⊥) → out_of p q (after_out a b send all) ≡ out_of p q all
  out-other send p q p1 ne = by (p == a) refl
    where
      by : (t : Bool) → (p == a) ≡ t → out_of p q (after_out a b send all) ≡ out_of p q all
      by true t =
          let is = eqb-true p a t in
          ap (λ z. end_to q (of_place z (after_out a b send all))) is
          ∙ ap (end_to q) (here all a (record (of_place a all) { out = set (of_place a all).out b (Some send) }) a1 a-in)
          ∙ get_or-set_other (of_place a all).out b q (Some send) None (λ e. ne (is, e))
          ∙ sym (ap (λ z. end_to q (of_place z all)) is)
      by false f = ap (end_to q) (elsewhere all a (record (of_place a all) { out = set (of_place a all).out b (Some send) }) a1 a-in p p1 (eqb-false p a f))

  pub into-other : (recv : RecvEnd Packet) (p q : ℕ) → 1 ≤ q → ((p ≡ a) × (q ≡ b) → ⊥) → into_of p q (after_into a b recv all) ≡ into_of p q all
  into-other recv p q q1 ne = by (q == b) refl
    where
      by : (t : Bool) → (q == b) ≡ t → into_of p q (after_into a b recv all) ≡ into_of p q all
      by true t =
          let is = eqb-true q b t in
          ap (λ z. end_from p (of_place z (after_into a b recv all))) is
          ∙ ap (end_from p) (here all b (record (of_place b all) { into = set (of_place b all).into a (Some recv) }) b1 b-in)
          ∙ get_or-set_other (of_place b all).into a p (Some recv) None (λ e. ne (e, is))
          ∙ sym (ap (λ z. end_from p (of_place z all)) is)
      by false f = ap (end_from p) (elsewhere all b (record (of_place b all) { into = set (of_place b all).into a (Some recv) }) b1 b-in q q1 (eqb-false q b f))

  pub into-stays : (send : SendEnd Packet) (p q : ℕ) → 1 ≤ q → into_of p q (after_out a b send all) ≡ into_of p q all
  into-stays send p q q1 = ap (λ xs. get_or xs p None) (field-kept (λ r. r.into) all a q (record (of_place a all) { out = set (of_place a all).out b (Some send) }) a1 a-in q1 refl)

  pub out-stays : (recv : RecvEnd Packet) (p q : ℕ) → 1 ≤ p → out_of p q (after_into a b recv all) ≡ out_of p q all
  out-stays recv p q p1 = ap (λ xs. get_or xs q None) (field-kept (λ r. r.out) all b p (record (of_place b all) { into = set (of_place b all).into a (Some recv) }) b1 b-in p1 refl)

-- both steps
pub links-one : (places a b : ℕ) (all : List Ruled) (send : SendEnd Packet) (recv : RecvEnd Packet) → HaveSlots (places + 1) places all → 1 ≤ a → a ≤ places → 1 ≤ b → b ≤ places
    → send_link send ≡ recv_link recv → room send ≡ LINK_LIMIT → AreNew send recv → fulls_of send ≡ 0 → empties_of recv ≡ 0
    → LinksOne a b all (after_into a b recv (after_out a b send all))
links-one places a b all send recv slots a1 am b1 bm one_link room new fulls empties = record {
  has = λ _. record {
    send = send;
    recv = recv;
    out = out-stays places a b middle between a1 am b1 bm recv a b a1 ∙ out-here places a b all slots a1 am b1 bm send;
    into = into-here places a b middle between a1 am b1 bm recv;
    one_link = one_link;
    room = room;
    new = new;
    fulls = fulls;
    empties = empties;
  };
  out = λ p q p1 ne. out-stays places a b middle between a1 am b1 bm recv p q p1 ∙ out-other places a b all slots a1 am b1 bm send p q p1 ne;
  into = λ p q q1 ne. into-other places a b middle between a1 am b1 bm recv p q q1 ne ∙ into-stays places a b all slots a1 am b1 bm send p q q1;
}
  where
    middle : List Ruled
    middle = after_out a b send all

    between : HaveSlots (places + 1) places middle
    between = out-slots places a b all slots a1 am b1 bm send

-- as the calls leave them
abbrev with_out : Ruled → ℕ → SendEnd Packet → Ruled
with_out r b send = record r { out = set r.out b (Some send) }

abbrev with_into : Ruled → ℕ → RecvEnd Packet → Ruled
with_into r a recv = record r { into = set r.into a (Some recv) }

module _ (a b i j : ℕ) (all : List Ruled) (r x : Ruled) where
  pub out-step : (send : SendEnd Packet) → i ≡ a - 1 → j ≡ b → a - 1 < length all → r ≡ get_or all i r → x ≡ record r { out = set r.out j (Some send) } → set all i x ≡ after_out a b send all
  out-step send ei ej lt is e =
      ap (set all i) (e ∙ ap (λ k. with_out r k send) ej ∙ ap (λ (q : Ruled). with_out q b send) (get_or_read all i r (subst (λ k. k < length all) (sym ei) lt) is no_ends))
      ∙ ap (λ k. set all k (with_out (get_or all k no_ends) b send)) ei

  pub into-step : (recv : RecvEnd Packet) → i ≡ b - 1 → j ≡ a → b - 1 < length all → r ≡ get_or all i r → x ≡ record r { into = set r.into j (Some recv) } → set all i x ≡ after_into a b recv all
  into-step recv ei ej lt is e =
      ap (set all i) (e ∙ ap (λ k. with_into r k recv) ej ∙ ap (λ (q : Ruled). with_into q a recv) (get_or_read all i r (subst (λ k. k < length all) (sym ei) lt) is no_ends))
      ∙ ap (λ k. set all k (with_into (get_or all k no_ends) a recv)) ei
