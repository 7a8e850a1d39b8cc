-- Taking what is left of places, place by place.
-- The words are those of specs/Leavings.antt.
use Rattle.std.proofs.Common.{ℕ, ◌≡◌, ◌≢◌, ◌+◌, ◌-◌, ◌<◌, ◌≤◌, ◌==◌, ◌⊎◌, cond, List, [], ◌++◌, length, get_or, set, Option, Some, None, is_some, sym, ◌∙◌, ap, subst, inl, inr, append_assoc, arith}
use Rattle.std.proofs.lemmas.Bool.{cases_eq}
use Rattle.std.proofs.lemmas.List.{length-set, get_or-set_same, get_or-set_other, get_or_read}
use Rattle.chorus_entry.specs.declared.packet.Packet.{Packet}
use Rattle.law_closing.specs.Closing.{IsPlace}
use Rattle.chorus_nucleus.specs.declared.leavings.Remains.{Remains}
use Rattle.chorus_nucleus.specs.Leavings.{between, Settles, SameOut, SameInto, the, slot, remains_of, TakesRow, goes_between, TakesFrom, TakesRows}
use Rattle.law_history.specs.Places.{up_to, from_one}
use Rattle.chorus_nucleus.proofs.Pairs.{up-next, row-same, row-of, out-then, into-then, between-as, settles-as}

-- it was there
pub slot-taken : (a i : ℕ) (old : List (Option Remains)) (o : Option Remains) (s : Remains) → i ≡ a - 1 → i < length old → o ≡ get_or old i o → o ≡ Some s → slot a old ≡ Some s
slot-taken a i old o s e lt is h = ap (λ k. get_or old k None) (sym e) ∙ sym (get_or_read old i o lt is None) ∙ h

-- what is left of a place was taken out: the others are as they were
module _ (a : ℕ) (s : Remains) (old mid : List (Option Remains)) (is : IsPlace (length old) a) (has : slot a old ≡ Some s) (e : mid ≡ set old (a - 1) None) where
  apart : (q : ℕ) → 1 ≤ q → q ≢ a → slot q mid ≡ slot q old
  apart q from ne = (let low = is.0 in ap (slot q) e ∙ get_or-set_other old (a - 1) (q - 1) None None (λ same. ne (omega (arith, low, from, same))))

  apart-count : length mid ≡ length old
  apart-count = ap length e ∙ length-set old (a - 1) None

  here : remains_of a old ≡ s
  here = ap the has

  -- a row was taken, and then what is left of the place was put back
  pub takes-from : (was now : List Packet) (t : Remains) (new end : List (Option Remains)) → TakesRow a (length mid) was now s t mid new → end ≡ set new (a - 1) (Some t) → TakesFrom a was now old end
  takes-from was now t new end r f = record {
    packets = r.packets ∙ ap (λ n. was ++ up_to n (λ q. cond (q == a) [] (between a s q (remains_of q mid)))) apart-count
        ∙ ap (λ xs. was ++ xs) (row-same a (length old) (λ q. between a s q (remains_of q mid)) (goes_between old a) (λ q at ne. pair q at.0 ne));
    settled = λ q at ne.
        let most : q ≤ length mid = (let m = at.1 in let n = apart-count in omega (arith, m, n)) in
        subst (λ z. Settles a z q (remains_of q old)) (sym here) (subst (λ z. Settles a s q z) (ap the (apart q at.0 ne)) (r.settled q at.0 most ne));
    count = ap length f ∙ length-set new (a - 1) (Some t) ∙ r.count ∙ apart-count;
    there = λ q from. there q from (cases_eq q a);
    out = λ p q from ne. subst (λ z. SameOut q (remains_of p old) z) (sym (other p from ne)) (subst (λ z. SameOut q z (remains_of p new)) (ap the (apart p from ne)) (r.there_out p q from));
    into = λ p q from ne. into p q from ne (cases_eq q a);
  }
    where
      pair : (q : ℕ) → 1 ≤ q → q ≢ a → between a s q (remains_of q mid) ≡ goes_between old a q
      pair q from ne = ap (λ z. between a s q z) (ap the (apart q from ne)) ∙ ap (λ z. between a z q (remains_of q old)) (sym here)

      size : length new ≡ length old
      size = r.count ∙ apart-count

      back : slot a end ≡ Some t
      back = (let low = is.0 in let le = is.1 in let n = size in ap (slot a) f ∙ get_or-set_same new (a - 1) (Some t) None (omega (arith, low, le, n)))

      others : (q : ℕ) → 1 ≤ q → q ≢ a → slot q end ≡ slot q new
      others q from ne = (let low = is.0 in ap (slot q) f ∙ get_or-set_other new (a - 1) (q - 1) (Some t) None (λ same. ne (omega (arith, low, from, same))))

      other : (q : ℕ) → 1 ≤ q → q ≢ a → remains_of q end ≡ remains_of q new
      other q from ne = ap the (others q from ne)

      there : (q : ℕ) → 1 ≤ q → (q ≡ a) ⊎ (q ≢ a) → is_some (slot q end) ≡ is_some (slot q old)
      there q from (inl same) = subst (λ z. is_some (slot z end) ≡ is_some (slot z old)) (sym same) (ap is_some back ∙ sym (ap is_some has))
      there q from (inr ne) = ap is_some (others q from ne) ∙ r.there q ∙ ap is_some (apart q from ne)

      into : (p q : ℕ) → 1 ≤ q → p ≢ a → (q ≡ a) ⊎ (q ≢ a) → SameInto p (remains_of q old) (remains_of q end)
      into p q from ne (inl same) =
          subst (λ z. SameInto p (remains_of z old) (remains_of z end)) (sym same)
          (subst (λ z. SameInto p z (remains_of a end)) (sym here) (subst (λ z. SameInto p s z) (sym (ap the back)) (r.kept p)))
      into p q from ne (inr other-place) =
          subst (λ z. SameInto p (remains_of q old) z) (sym (other q from other-place)) (subst (λ z. SameInto p z (remains_of q new)) (ap the (apart q from other-place)) (r.into p q from ne))

-- one place more
pub rows-more : (a : ℕ) (p0 p1 p2 : List Packet) (s0 s1 s2 : List (Option Remains)) → TakesRows a p0 p1 s0 s1 → TakesFrom (a + 1) p1 p2 s1 s2 → TakesRows (a + 1) p0 p2 s0 s2
rows-more a p0 p1 p2 s0 s1 s2 r o = record {
  packets = o.packets ∙ ap (λ n. p1 ++ from_one n (goes_between s1) (a + 1)) r.count ∙ ap (λ xs. p1 ++ xs) row ∙ ap (λ xs. xs ++ from_one n (goes_between s0) (a + 1)) r.packets
      ∙ append_assoc p0 (up_to a f) (f (a + 1)) ∙ ap (λ xs. p0 ++ xs) (sym (up-next a f));
  settled = λ p q low le is ne. settle p q low le is ne (cases_eq p (a + 1));
  count = o.count ∙ r.count;
  there = λ q from. o.there q from ∙ r.there q from;
  out = λ p q lt. out-then q (remains_of p s0) (remains_of p s1) (remains_of p s2) (r.out p q (omega (arith, lt))) (o.out p q (omega (arith, lt)) (λ e. omega (arith, lt, e)));
  into = λ p q from lt. into-then p (remains_of q s0) (remains_of q s1) (remains_of q s2) (r.into p q from (omega (arith, lt))) (o.into p q from (λ e. omega (arith, lt, e)));
}
  where
    n : ℕ
    n = length s0

    f : ℕ → List Packet
    f = from_one n (goes_between s0)

    row : from_one n (goes_between s1) (a + 1) ≡ from_one n (goes_between s0) (a + 1)
    row = row-of n (goes_between s1) (goes_between s0) (a + 1)
        (λ q is ne. between-as (a + 1) q (remains_of (a + 1) s0) (remains_of (a + 1) s1) (remains_of q s0) (remains_of q s1) (r.out (a + 1) q (omega arith)) (r.into (a + 1) q is.0 (omega arith)))

    settle : (p q : ℕ) → 1 ≤ p → p ≤ a + 1 → IsPlace n q → q ≢ p → (p ≡ a + 1) ⊎ (p ≢ a + 1) → Settles p (remains_of p s0) q (remains_of q s0)
    settle p q low le is ne (inl same) = subst (λ z. Settles z (remains_of z s0) q (remains_of q s0)) (sym same) last
      where
        last : Settles (a + 1) (remains_of (a + 1) s0) q (remains_of q s0)
        last =
            settles-as (a + 1) q (remains_of (a + 1) s0) (remains_of (a + 1) s1) (remains_of q s0) (remains_of q s1) (r.out (a + 1) q (omega arith)) (r.into (a + 1) q is.0 (omega arith))
            (o.settled q (subst (λ m. IsPlace m q) (sym r.count) is) (λ e. ne (e ∙ sym same)))
    settle p q low le is ne (inr other) = r.settled p q low (omega (arith, le, other)) is ne
