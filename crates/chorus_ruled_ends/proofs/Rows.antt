-- The links from one place, one after the other, and the places one after the other.
-- a is the place, n the next one that it is linked to; base, old and new are the ends before, then before and after a step.
use Rattle.std.proofs.Common.{ℕ, ◌≡◌, ◌≢◌, ◌+◌, ◌<◌, ◌≤◌, ◌⊎◌, List, length, sym, ◌∙◌, inl, inr, subst, arith}
use Rattle.std.proofs.lemmas.Bool.{cases_lt}
use Rattle.chorus_ruled_ends.specs.Ruled.{Ruled}
use Rattle.chorus_ruled_ends.specs.Linked.{out_of, into_of, HasLink, LinksOne, LinksBelow, AreLinkedBelow, AreLinked}

pub link-kept : (a b : ℕ) (old new : List Ruled) → out_of a b new ≡ out_of a b old → into_of a b new ≡ into_of a b old → HasLink a b old → HasLink a b new
link-kept a b old new out into h = record {
  send = h.send;
  recv = h.recv;
  out = out ∙ h.out;
  into = into ∙ h.into;
  one_link = h.one_link;
  room = h.room;
  new = h.new;
  fulls = h.fulls;
  empties = h.empties;
}

pub below-more : (a n : ℕ) (base old new : List Ruled) → 1 ≤ a → LinksBelow a n base old → LinksOne a n old new → LinksBelow a (n + 1) base new
below-more a n base old new a1 h s = record {
  has = λ b b1 lt ne. by b b1 lt ne (cases_lt b n);
  out = λ p q p1 ne. s.out p q p1 (λ e. ne e.0) ∙ h.out p q p1 ne;
  into = λ p q q1 ne. s.into p q q1 (λ e. ne e.0) ∙ h.into p q q1 ne;
}
  where
    by : (b : ℕ) → 1 ≤ b → b < n + 1 → a ≢ b → (b < n) ⊎ (n ≤ b) → HasLink a b new
    by b b1 lt ne (inl below) = link-kept a b old new (s.out a b a1 (λ e. other e.1)) (s.into a b b1 (λ e. other e.1)) (h.has b b1 below ne)
      where
        other : b ≢ n
        other e = omega (arith, below, e)
    by b b1 lt ne (inr least) = subst (λ q. HasLink a q new) is (s.has (λ e. ne (e ∙ is)))
      where
        is : n ≡ b
        is = omega (arith, lt, least)

pub below-all : (a n most : ℕ) (old new : List Ruled) → most < n → LinksBelow a n old new → LinksBelow a (most + 1) old new
below-all a n most old new le h = record { has = λ b b1 lt ne. h.has b b1 (omega (arith, le, lt)) ne; out = h.out; into = h.into }

pub rows-more : (n places : ℕ) (old new : List Ruled) → AreLinkedBelow n places old → LinksBelow n (places + 1) old new → AreLinkedBelow (n + 1) places new
rows-more n places old new h s = record { linked = λ a b a1 lt b1 bm ne. by a b a1 lt b1 bm ne (cases_lt a n) }
  where
    by : (a b : ℕ) → 1 ≤ a → a < n + 1 → 1 ≤ b → b ≤ places → a ≢ b → (a < n) ⊎ (n ≤ a) → HasLink a b new
    by a b a1 lt b1 bm ne (inl below) = link-kept a b old new (s.out a b a1 other) (s.into a b b1 other) (h.linked a b a1 below b1 bm ne)
      where
        other : a ≢ n
        other e = omega (arith, below, e)
    by a b a1 lt b1 bm ne (inr least) = subst (λ q. HasLink q b new) is (s.has b b1 (omega (arith, bm)) (λ e. ne (sym is ∙ e)))
      where
        is : n ≡ a
        is = omega (arith, lt, least)

pub rows-all : (n places most : ℕ) (all : List Ruled) → places ≡ most → places < n → length all ≡ places → AreLinkedBelow n places all → AreLinked most all
rows-all n places most all e lt count h =
    subst (λ m. AreLinked m all) e (record { count = count; linked = λ a b a1 am b1 bm ne. h.linked a b a1 (omega (arith, am, lt)) b1 bm ne })
