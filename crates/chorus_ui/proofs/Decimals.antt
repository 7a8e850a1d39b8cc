-- Decimals and their numbers, both ways; and reading a decimal byte by byte.
use Rattle.std.proofs.Common.{◌≡◌, ◌≢◌, ℕ, zero, suc, ◌+◌, ◌-◌, ◌*◌, ◌^◌, ◌<◌, ◌≤◌, Bool, true, false, ◌&&◌, leb, List, [], ◌∷◌, length, get_or, drop, Option, Some, None, if◌then◌else◌, refl, sym, ap, ◌∙◌, arith, add-one, drop-cons, IfSome, IsNone, decimal}
use Rattle.std.specs.Char.{is_ascii_digit, digit_value}
use Rattle.std.specs.Int.{IsInRange}
use Rattle.std.specs.Option.{option_and_then}
use Rattle.std.specs.Str.Parse.{digits_value_after}
use Rattle.std.proofs.lemmas.Bool.{and_parts}
use Rattle.std.proofs.lemmas.Bool.Decides.{nat_tests}
use Rattle.std.proofs.lemmas.Grind.{common_steps}
use Rattle.std.proofs.lemmas.Fmt.{digits_decimal, digits_value-decimal, decimal-digits_value, decimal_digit, decimal_nonempty, first_decimal}
use Rattle.std.proofs.lemmas.Str.{digit_value_digit}
use Rattle.std.proofs.lemmas.Str.Parse.{IsDigitsTest, IsNumeralModel, numerals_by_value}
use Rattle.chorus_ui.specs.Decimals.{all_digits, begins_decimal, is_decimal, decimal_value, value_in_64_bits, read_digit, parse_decimal}

abbrev AreDigits : List ℕ → Type 0
AreDigits ds = all_digits ds ≡ true

digit_parts : (c : ℕ) (b : Bool) → (is_ascii_digit c && b) ≡ true → IsInRange 48 57 c × (b ≡ true)
digit_parts c true h = (grind (arith, nat_tests), refl)
digit_parts c false h = grind (arith, nat_tests)

digit_more : (c : ℕ) (b : Bool) → IsInRange 48 57 c → b ≡ true → (is_ascii_digit c && b) ≡ true
digit_more c b h e = grind (arith, nat_tests)

digits_test : IsDigitsTest AreDigits
digits_test = record { empty = refl; parts = λ c cs h. digit_parts c (all_digits cs) h; more = λ c cs k h. digit_more c (all_digits cs) k h }

own : IsNumeralModel AreDigits decimal_value
own = numerals_by_value AreDigits digits_test

-- what `is_decimal` says, part by part
record AreDecimal (ds : List ℕ) : Type 0 where
  digits : AreDigits ds
  some : 0 < length ds
  first : get_or ds 0 0 ≡ 48 → length ds ≡ 1

begins : (ds : List ℕ) → begins_decimal ds ≡ true → (0 < length ds) × (get_or ds 0 0 ≡ 48 → length ds ≡ 1)
begins [] h = grind arith
begins (c ∷ cs) h = (omega arith, λ e. grind (arith, nat_tests))

begins_whole : (ds : List ℕ) → 0 < length ds → (get_or ds 0 0 ≡ 48 → length ds ≡ 1) → begins_decimal ds ≡ true
begins_whole [] some first = absurd (omega arith)
begins_whole (c ∷ cs) some first = grind (arith, nat_tests)

decimal_parts : (ds : List ℕ) → is_decimal ds ≡ true → AreDecimal ds
decimal_parts ds h =
    let parts = and_parts (begins_decimal ds) (all_digits ds) h in
    let start = begins ds parts.0 in
    record { digits = parts.1; some = start.0; first = start.1 }

decimal_whole : (ds : List ℕ) → AreDecimal ds → is_decimal ds ≡ true
decimal_whole ds h = rw (begins_whole ds h.some h.first) h.digits

first_alone : (n : ℕ) → n < 2 ^ 64 → get_or (decimal n) 0 0 ≡ 48 → length (decimal n) ≡ 1
first_alone zero h e = ap length (decimal_digit 0 (omega arith))
first_alone (suc n) h e = absurd (omega (arith, first_decimal (suc n) (omega arith) h))

pub all_digits-decimal : (n : ℕ) → n < 2 ^ 64 → all_digits (decimal n) ≡ true
all_digits-decimal n h = digits_decimal own n h

-- the decimal of a number is one
pub is_decimal-decimal : (n : ℕ) → n < 2 ^ 64 → is_decimal (decimal n) ≡ true
is_decimal-decimal n h = decimal_whole (decimal n) (record { digits = digits_decimal own n h; some = decimal_nonempty n h; first = first_alone n h })

-- and its number is that one
pub decimal_value-decimal : (n : ℕ) → n < 2 ^ 64 → decimal_value (decimal n) ≡ n
decimal_value-decimal n h = digits_value-decimal own n h

-- a number has one decimal
pub decimal-decimal_value : (ds : List ℕ) → is_decimal ds ≡ true → decimal_value ds < 2 ^ 64 → decimal (decimal_value ds) ≡ ds
decimal-decimal_value ds h fits = let p = decimal_parts ds h in decimal-digits_value own ds p.digits p.some p.first fits

in_64_bits : (n : ℕ) → n < 2 ^ 64 → (if leb (suc n) (2 ^ 64) then Some n else None) ≡ Some n
in_64_bits n h = grind (arith, nat_tests)

-- what is spelled is read
pub parse_decimal-decimal : (n : ℕ) → n < 2 ^ 64 → parse_decimal (decimal n) ≡ Some n
unfolding parse_decimal
parse_decimal-decimal n h = rw (is_decimal-decimal n h, decimal_value-decimal n h) (in_64_bits n h)

some_by_tests : (b t : Bool) (v : ℕ) (text : List ℕ) → (b ≡ true → t ≡ true → text ≡ decimal v) → IfSome (if b then (if t then Some v else None) else None) (λ n. text ≡ decimal n)
some_by_tests true true v text h = h refl refl
some_by_tests true false v text h = tt
some_by_tests false t v text h = tt

-- what is read is spelled so
pub parse_decimal_some : (text : List ℕ) → IfSome (parse_decimal text) (λ n. text ≡ decimal n)
unfolding parse_decimal
parse_decimal_some text =
    some_by_tests (is_decimal text) (leb (suc (decimal_value text)) (2 ^ 64)) (decimal_value text) text
    (λ d t. sym (decimal-decimal_value text d (grind (arith, nat_tests))))

pub parse_decimal_is : (text : List ℕ) (n : ℕ) → parse_decimal text ≡ Some n → text ≡ decimal n
parse_decimal_is text n e = rw e at (parse_decimal_some text)

pub parse_decimal_not_empty : (text : List ℕ) (n : ℕ) → parse_decimal text ≡ Some n → 0 < length text
unfolding parse_decimal
parse_decimal_not_empty [] n e = grind arith
parse_decimal_not_empty (c ∷ cs) n e = omega arith

pub parse_decimal_none : (text : List ℕ) → parse_decimal text ≡ None → (n : ℕ) → n < 2 ^ 64 → text ≢ decimal n
parse_decimal_none text none n h e = grind (arith, ap parse_decimal e, parse_decimal-decimal n h)

-- the number of 64 bits that digits write behind those of n
abbrev pub read_digits : ℕ → List ℕ → Option ℕ
read_digits n [] = Some n
read_digits n (c ∷ cs) = option_and_then (λ m. read_digits m cs) (read_digit n c)

module _ (text : List ℕ) (i n : ℕ) (total : Option ℕ) (so_far : read_digits n (drop i text) ≡ total) where
  here : i < length text → option_and_then (λ m. read_digits m (drop (i + 1) text)) (read_digit n (get_or text i 0)) ≡ total
  here lt =
      let d : drop i text ≡ get_or text i 0 ∷ drop (i + 1) text = rw add-one (drop-cons text i 0 lt) in
      sym (ap (read_digits n) d) ∙ so_far

  pub read_on : (m : ℕ) → i < length text → Some m ≡ read_digit n (get_or text i 0) → read_digits m (drop (i + 1) text) ≡ total
  read_on m lt e = rw (← e) at (here lt)

  pub read_off : i < length text → None ≡ read_digit n (get_or text i 0) → None ≡ total
  read_off lt e = rw (← e) at (here lt)

  pub read_end : length text ≤ i → Some n ≡ total
  read_end le =
      let d : drop i text ≡ [] = grind (arith, common_steps) in
      rw d at so_far

value_grows : (n : ℕ) (cs : List ℕ) → n ≤ digits_value_after 10 n cs
value_grows n [] = omega arith
value_grows n (c ∷ cs) = omega (arith, value_grows (n * 10 + digit_value c) cs)

abbrev bounded : ℕ → Bool → Option ℕ
bounded n b = if b then (if leb (suc n) (2 ^ 64) then Some n else None) else None

too_big : (v : ℕ) (b : Bool) → 2 ^ 64 ≤ v → None ≡ bounded v b
too_big v true h = grind (arith, nat_tests)
too_big v false h = refl

module _ (n c : ℕ) (cs : List ℕ) where
  more : ℕ
  more = n * 10 + (c - 48)

  value : is_ascii_digit c ≡ true → digit_value c ≡ c - 48
  value d = let digit : IsInRange 48 57 c = grind (arith, nat_tests) in omega (arith, digit_value_digit c digit)

  read_after : (b t : Bool) → is_ascii_digit c ≡ b → leb (suc more) (2 ^ 64) ≡ t → (more < 2 ^ 64 → read_digits more cs ≡ bounded (digits_value_after 10 more cs) (all_digits cs)) → read_digits n (c ∷ cs) ≡ bounded (digits_value_after 10 n (c ∷ cs)) (all_digits (c ∷ cs))
  unfolding more
  read_after false t d e rest = rw d refl
  read_after true true d e rest = rw (d, e, value d) (rest (grind (arith, nat_tests)))
  read_after true false d e rest =
      let above : 2 ^ 64 ≤ more = grind (arith, nat_tests) in
      rw (d, e) (too_big (digits_value_after 10 (n * 10 + digit_value c) cs) (all_digits cs) (omega (arith, value d, value_grows (n * 10 + digit_value c) cs, above)))

read_digits_after : (n : ℕ) (cs : List ℕ) → n < 2 ^ 64 → read_digits n cs ≡ bounded (digits_value_after 10 n cs) (all_digits cs)
unfolding more
read_digits_after n [] h = sym (in_64_bits n h)
read_digits_after n (c ∷ cs) h = read_after n c cs _ _ refl refl (read_digits_after (n * 10 + (c - 48)) cs)

pub read_digits_value : (text : List ℕ) → read_digits 0 text ≡ (if all_digits text then value_in_64_bits text else None)
read_digits_value text = read_digits_after 0 text (omega arith)

pub from_IsNone : {A : Type 0} (r : Option A) → IsNone r → r ≡ None
from_IsNone None h = refl
from_IsNone (Some x) h = grind arith

module _ (text : List ℕ) (r : Option ℕ) where
  pub parsed_begun : true ≡ begins_decimal text → r ≡ (if all_digits text then value_in_64_bits text else None) → r ≡ parse_decimal text
  unfolding parse_decimal
  parsed_begun b e = rw (← b) e

  pub parsed_some : r ≡ parse_decimal text → IfSome r (λ n. text ≡ decimal n)
  parsed_some e = rw e (parse_decimal_some text)

  pub parsed_none : r ≡ parse_decimal text → IsNone r → (n : ℕ) → n < 2 ^ 64 → text ≢ decimal n
  parsed_none e h = parse_decimal_none text (sym e ∙ from_IsNone r h)

pub not_parsed : (text : List ℕ) → false ≡ begins_decimal text → None ≡ parse_decimal text
unfolding parse_decimal
not_parsed text b = rw (← b) refl
