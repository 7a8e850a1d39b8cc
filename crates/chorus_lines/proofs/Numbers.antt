-- Decimals, of which those beyond 64 bits count as one number.
use Rattle.std.proofs.Common.{◌≡◌, ℕ, ◌^◌, ◌<◌, min, Bool, true, false, cond, List, Some, None, refl, sym, ap, ◌∙◌, arith, nat_lt}
use Rattle.std.specs.Prelude.{decimal}
use Rattle.std.proofs.lemmas.Bool.Decides.{nat_tests}
use Rattle.chorus_ui.specs.Decimals.{is_decimal, decimal_value, parse_decimal}
use Rattle.chorus_ui.proofs.Decimals.{decimal-decimal_value}
use Rattle.chorus_lines.specs.Text.{number_in}

min_small : (v : ℕ) → nat_lt v (2 ^ 64) ≡ true → min v (2 ^ 64) ≡ v
min_small v h = grind (arith, nat_tests)

min_huge : (v : ℕ) → nat_lt v (2 ^ 64) ≡ false → min v (2 ^ 64) ≡ 2 ^ 64
min_huge v h = grind (arith, nat_tests)

some_by : (b c : Bool) (v n : ℕ) → nat_lt v (2 ^ 64) ≡ c → cond b (cond c (Some v) None) None ≡ Some n → cond b (Some (min v (2 ^ 64))) None ≡ Some n
some_by true true v n small h = ap Some (min_small v small) ∙ h
some_by true false v n small h = absurd cc
some_by false c v n small h = absurd cc

pub number_in_some : (text : List ℕ) (n : ℕ) → parse_decimal text ≡ Some n → number_in text ≡ Some n
unfolding parse_decimal
number_in_some text n h = some_by (is_decimal text) (nat_lt (decimal_value text) (2 ^ 64)) (decimal_value text) n refl h

huge_by : (c : Bool) (v : ℕ) → nat_lt v (2 ^ 64) ≡ c → cond c (Some v) None ≡ None → min v (2 ^ 64) ≡ 2 ^ 64
huge_by true v small h = absurd cc
huge_by false v small h = min_huge v small

pub number_in_huge : (text : List ℕ) → parse_decimal text ≡ None → is_decimal text ≡ true → number_in text ≡ Some (2 ^ 64)
unfolding parse_decimal
number_in_huge text h b =
    let g : cond (nat_lt (decimal_value text) (2 ^ 64)) (Some (decimal_value text)) None ≡ None = rw b at h in
    rw b (ap Some (huge_by (nat_lt (decimal_value text) (2 ^ 64)) (decimal_value text) refl g))

small_by : (b : Bool) (v n : ℕ) → cond b (Some (min v (2 ^ 64))) None ≡ Some n → n < 2 ^ 64 → (b ≡ true) × (v ≡ n)
small_by true v n h small = (refl, let e : min v (2 ^ 64) ≡ n = cc in omega arith)
small_by false v n h small = absurd cc

-- a number of 64 bits is spelled in one way
pub spelled_number : (text : List ℕ) (n : ℕ) → number_in text ≡ Some n → n < 2 ^ 64 → decimal n ≡ text
spelled_number text n h small =
    let p = small_by (is_decimal text) (decimal_value text) n h small in
    ap decimal (sym p.1) ∙ decimal-decimal_value text p.0 (omega (arith, p.1))
