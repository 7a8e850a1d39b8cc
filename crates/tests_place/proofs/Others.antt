-- The one other place of two.
use Rattle.std.proofs.Common.{ℕ, ◌≡◌, ◌≢◌, ◌-◌, ◌≤◌, nat_le, Bool, true, sym, ◌∙◌, subst, arith}
use Rattle.std.proofs.lemmas.Bool.{and_parts, leb-true}
use Rattle.chorus_ui.specs.declared.layout.Layout.{Layout}
use Rattle.chorus_ui.specs.Layout.{has_place, places}
use Rattle.chorus_serve.specs.Flows.{IsOther}

of_two : (n p : ℕ) → 1 ≤ n → n ≤ 2 → 1 ≤ p → p ≤ 2 → p ≢ n → p ≡ 3 - n
of_two n p a b c d ne = omega (arith, a, b, c, d, ne)

least : (l : Layout) (p : ℕ) → has_place l p ≡ true → 1 ≤ p
least l p h = leb-true 1 p (and_parts (nat_le 1 p) (nat_le p (places l)) h).0

most : (l : Layout) (p : ℕ) → has_place l p ≡ true → p ≤ places l
most l p h = leb-true p (places l) (and_parts (nat_le 1 p) (nat_le p (places l)) h).1

-- ends that reach it reach each other place
pub reaches_others : (l : Layout) (number : ℕ) (reaches : ℕ → Bool) → places l ≡ 2 → has_place l number ≡ true → reaches (3 - number) ≡ true → (p : ℕ) → IsOther l number p → reaches p ≡ true
reaches_others l number reaches two here at_other p o =
    subst (λ q. reaches q ≡ true)
    (sym (of_two number p (least l number here) (subst (λ n. number ≤ n) two (most l number here)) (least l p o.place) (subst (λ n. p ≤ n) two (most l p o.place)) o.other))
    at_other
