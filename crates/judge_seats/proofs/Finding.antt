-- The actor that is told is one of the layout in which the caller may have been; there is one wherever some actor is so.
use Rattle.std.proofs.Common.{ℕ, zero, suc, ◌+◌, ◌-◌, ◌*◌, ◌/◌, ◌%◌, ◌<◌, ◌≤◌, ◌≡◌, ◌==◌, nat_le, Bool, true, false, not, ◌&&◌, cond, Option, Some, None, is_some, refl, sym, ◌∙◌, ap, arith}
use Rattle.std.proofs.lemmas.Bool.{and_parts, false≢true}
use Rattle.std.proofs.lemmas.Bool.Decides.{nat_tests}
use Rattle.std.specs.Option.{option_or}
use Rattle.chorus_ui.specs.declared.ui.Ui.{Ui}
use Rattle.chorus_ui.specs.declared.layout.Layout.{Layout}
use Rattle.chorus_ui.specs.declared.kind.Kind.{Kind}
use Rattle.chorus_ui.specs.declared.kind.Kind.TheVariants.{Actor, Port, Group}
use Rattle.chorus_ui.specs.Kind.{same_kind}
use Rattle.chorus_ui.specs.Layout.{has_actor, has_site}
use Rattle.chorus_ui.specs.NameKind.{is_actor}
use Rattle.judge_seats.specs.declared.seats.Sitting.{Sitting}
use Rattle.judge_seats.specs.Seats.{actor_at, actor_by, actor_of, first_in, free_actor, home_actor, if_may, may_be_in, sits_by}

pub none-some : {A : Type 0} → (a : A) → None ≡ Some a → ⊥
none-some a h = cc

pub some-same : {A : Type 0} → (a b : A) → Some a ≡ Some b → a ≡ b
some-same a b h = cc

module _ (l : Layout) (out : Ui → Bool) where
  case-may : (b a : Ui) (t : Bool) → may_be_in l out b ≡ t → cond t (Some b) None ≡ Some a → (a ≡ b) × (may_be_in l out a ≡ true)
  case-may b a true e h = let same : b ≡ a = some-same b a h in (sym same, ap (may_be_in l out) (sym same) ∙ e)
  case-may b a false e h = absurd (none-some a h)

  pub may-some : (b a : Ui) → if_may l out b ≡ Some a → (a ≡ b) × (may_be_in l out a ≡ true)
  may-some b a h = case-may b a (may_be_in l out b) refl h

  some-may : (a : Ui) → may_be_in l out a ≡ true → is_some (if_may l out a) ≡ true
  some-may a h = ap (λ t. is_some (cond t (Some a) None)) h

  or-case : (x y : Option Ui) (a : Ui) → ((b : Ui) → x ≡ Some b → may_be_in l out b ≡ true) → ((b : Ui) → y ≡ Some b → may_be_in l out b ≡ true) → option_or x y ≡ Some a → may_be_in l out a ≡ true
  or-case None y a hx hy h = hy a h
  or-case (Some b) y a hx hy h = hx a h

  first-some : (n : ℕ) (a : Ui) → first_in l out n ≡ Some a → may_be_in l out a ≡ true
  first-some zero a h = absurd (none-some a h)
  first-some (suc n) a h = or-case (first_in l out n) (if_may l out (actor_at n)) a (first-some n) (λ b k. (may-some (actor_at n) b k).1) h

  free-some : (p : ℕ) (a : Ui) → free_actor l out p ≡ Some a → may_be_in l out a ≡ true
  free-some p a h = or-case (if_may l out (home_actor l p)) (first_in l out (l.sites * 8)) a (λ b k. (may-some (home_actor l p) b k).1) (first-some (l.sites * 8)) h

  -- what is told of a caller
  pub record IsTold (r : Option Sitting) (a : Ui) : Type 0 where
    pub may : may_be_in l out a ≡ true
    pub put : (b : Ui) → actor_of r ≡ Some b → a ≡ b

  by-actor : (p : ℕ) (o : Option Ui) (a : Ui) → actor_by l out p o ≡ Some a → (may_be_in l out a ≡ true) × ((b : Ui) → o ≡ Some b → a ≡ b)
  by-actor p None a h = (free-some p a h, λ b k. absurd (none-some b k))
  by-actor p (Some c) a h = let is = may-some c a h in (is.1, λ b k. is.0 ∙ some-same c b k)

  pub told : (r : Option Sitting) (a : Ui) → sits_by l out r ≡ Some a → IsTold r a
  told None a h = absurd (none-some a h)
  told (Some r) a h = let is = by-actor r.place r.actor a h in record { may = is.0; put = is.1 }

  -- The other way: an actor in which the caller may have been is found, or one before it.

  or-right : (x y : Option Ui) → is_some y ≡ true → is_some (option_or x y) ≡ true
  or-right None y h = h
  or-right (Some b) y h = refl

  or-left : (x y : Option Ui) → is_some x ≡ true → is_some (option_or x y) ≡ true
  or-left None y h = absurd (false≢true h)
  or-left (Some b) y h = refl

  first-found : (n k : ℕ) → k < n → may_be_in l out (actor_at k) ≡ true → is_some (first_in l out n) ≡ true
  first-found zero k small h = absurd (omega (arith, small))
  first-found (suc n) k small h = by-test (k == n) refl (λ less. first-found n k less h)
    where
      by-test : (t : Bool) → (k == n) ≡ t → (k < n → is_some (first_in l out n) ≡ true) → is_some (first_in l out (suc n)) ≡ true
      by-test true e before =
          let same : k ≡ n = grind (arith, nat_tests, e) in
          or-right (first_in l out n) (if_may l out (actor_at n)) (some-may (actor_at n) (ap (λ i. may_be_in l out (actor_at i)) (sym same) ∙ h))
      by-test false e before =
          let less : k < n = grind (arith, nat_tests, e, small) in
          or-left (first_in l out n) (if_may l out (actor_at n)) (before less)

  kind-is : (k : Kind) → same_kind k Actor ≡ true → k ≡ Actor
  kind-is Actor h = refl
  kind-is Port h = absurd (false≢true h)
  kind-is Group h = absurd (false≢true h)

  -- where an actor stands among all
  module _ (a : Ui) (may : may_be_in l out a ≡ true) where
    parts : ((is_actor a && has_actor l a) ≡ true) × (not (out a) ≡ true)
    parts = and_parts (is_actor a && has_actor l a) (not (out a)) may

    both : (is_actor a ≡ true) × (has_actor l a ≡ true)
    both = and_parts (is_actor a) (has_actor l a) parts.0

    bounds : ((has_site l a.site && nat_le 1 a.number) ≡ true) × (nat_le a.number 8 ≡ true)
    bounds = and_parts (has_site l a.site && nat_le 1 a.number) (nat_le a.number 8) both.1

    lower : (has_site l a.site ≡ true) × (nat_le 1 a.number ≡ true)
    lower = and_parts (has_site l a.site) (nat_le 1 a.number) bounds.0

    sites : (nat_le 1 a.site ≡ true) × (nat_le a.site l.sites ≡ true)
    sites = and_parts (nat_le 1 a.site) (nat_le a.site l.sites) lower.0

    from_one : 1 ≤ a.site
    from_one = grind (arith, nat_tests, sites.0)

    to_last : a.site ≤ l.sites
    to_last = grind (arith, nat_tests, sites.1)

    number_one : 1 ≤ a.number
    number_one = grind (arith, nat_tests, lower.1)

    number_last : a.number ≤ 8
    number_last = grind (arith, nat_tests, bounds.1)

    row : ℕ
    row = (a.site - 1) * 8 + (a.number - 1)

    inside : row < l.sites * 8
    unfolding row
    inside = omega (arith, from_one, to_last, number_one, number_last)

    site-is : row / 8 + 1 ≡ a.site
    unfolding row
    site-is = omega (arith, from_one, number_one, number_last)

    number-is : row % 8 + 1 ≡ a.number
    unfolding row
    number-is = omega (arith, from_one, number_one, number_last)

    it : actor_at row ≡ a
    it = λ i. record { site = site-is i; kind = sym (kind-is a.kind both.0) i; number = number-is i }

    pub free-found : (p : ℕ) → is_some (free_actor l out p) ≡ true
    free-found p = or-right (if_may l out (home_actor l p)) (first_in l out (l.sites * 8)) (first-found (l.sites * 8) row inside (ap (may_be_in l out) it ∙ may))

    by-put : (p : ℕ) (o : Option Ui) → ((b : Ui) → o ≡ Some b → a ≡ b) → is_some (actor_by l out p o) ≡ true
    by-put p None h = free-found p
    by-put p (Some b) h = some-may b (ap (may_be_in l out) (sym (h b refl)) ∙ may)

    pub found : (r : Sitting) → ((b : Ui) → r.actor ≡ Some b → a ≡ b) → is_some (sits_by l out (Some r)) ≡ true
    found r h = by-put r.place r.actor h
