-- A body that was read, printed in the one way, is read as the same.
use Rattle.std.proofs.Common.{◌≡◌, ℕ, ◌+◌, ◌*◌, ◌/◌, ◌%◌, ◌<◌, Bool, true, false, ◌&&◌, ◌||◌, cond, eqb, List, [], ◌∷◌, length, Option, Some, None, refl, sym, ap, ◌∙◌, subst, arith, ◌≤◌}
use Rattle.std.specs.Prelude.{nat_lt, nat_le}
use Rattle.std.proofs.lemmas.Bool.Decides.{nat_tests}
use Rattle.chorus_lines.specs.Text.{each_byte, is_plain}
use Rattle.chorus_lines.specs.Body.{pairs, is_hex, hex_value, is_hex_text, bytes_of_hex, body_in, begins_a_body, hex_digit, hex_text, body_text}
use Rattle.chorus_scene.proofs.Spelled.{both}
use Rattle.chorus_lines.proofs.Hex.{pairs_len}

abbrev is_byte : ℕ → Bool
is_byte x = nat_lt x 256

digit_again : (n : ℕ) → n < 16 → hex_value (hex_digit n) ≡ n
digit_again n h = grind (arith, nat_tests)

digit_is_hex : (n : ℕ) → n < 16 → is_hex (hex_digit n) ≡ true
digit_is_hex n h = grind (arith, nat_tests)

byte_small : (x : ℕ) → is_byte x ≡ true → x < 256
byte_small x h = grind (arith, nat_tests)

pairs_again : (bytes : List ℕ) → each_byte is_byte bytes ≡ true → pairs (hex_text bytes) ≡ bytes
unfolding pairs each_byte
pairs_again [] h = refl
pairs_again (x ∷ xs) h =
    let p = both (is_byte x) (each_byte is_byte xs) h in
    let small = byte_small x p.0 in
    let a = digit_again (x / 16) (omega arith) in
    let b = digit_again (x % 16) (omega arith) in
    let e : 16 * (x / 16) + x % 16 ≡ x = omega arith in
    let r = pairs_again xs p.1 in
    rw (a, b, e, r) refl

hex_length : (bytes : List ℕ) → length (hex_text bytes) ≡ 2 * length bytes
hex_length [] = refl
hex_length (x ∷ xs) = let h = hex_length xs in omega arith

are_hex : (bytes : List ℕ) → each_byte is_byte bytes ≡ true → each_byte is_hex (hex_text bytes) ≡ true
unfolding each_byte
are_hex [] h = refl
are_hex (x ∷ xs) h =
    let p = both (is_byte x) (each_byte is_byte xs) h in
    let small = byte_small x p.0 in
    let a = digit_is_hex (x / 16) (omega arith) in
    let b = digit_is_hex (x % 16) (omega arith) in
    let r = are_hex xs p.1 in
    rw (a, b, r) refl

hex_again : (bytes : List ℕ) → each_byte is_byte bytes ≡ true → bytes_of_hex (hex_text bytes) ≡ Some bytes
hex_again bytes h =
    let even : eqb (length (hex_text bytes) % 2) 0 ≡ true = rw (hex_length bytes) (let e : 2 * length bytes % 2 ≡ 0 = omega arith in rw e refl) in
    let a = are_hex bytes h in
    let r = pairs_again bytes h in
    rw (even, a, r) refl

value_small : (c : ℕ) → is_hex c ≡ true → hex_value c < 16
value_small c h = grind (arith, nat_tests)

eq_of : (m n : ℕ) → eqb m n ≡ true → m ≡ n
eq_of m n h = grind (arith, nat_tests)

small_byte : (x : ℕ) → x < 256 → is_byte x ≡ true
small_byte x h = grind (arith, nat_tests)

pairs_small : (cs : List ℕ) → each_byte is_hex cs ≡ true → each_byte is_byte (pairs cs) ≡ true
unfolding pairs each_byte
pairs_small [] h = refl
pairs_small (c ∷ []) h = refl
pairs_small (c ∷ d ∷ cs) h =
    let p = both (is_hex c) (is_hex d && each_byte is_hex cs) h in
    let q = both (is_hex d) (each_byte is_hex cs) p.1 in
    let a = value_small c p.0 in
    let b = value_small d q.0 in
    let e : is_byte (16 * hex_value c + hex_value d) ≡ true = small_byte (16 * hex_value c + hex_value d) (omega arith) in
    let r = pairs_small cs q.1 in
    rw (e, r) refl

inv_choice : (b : Bool) (xs bytes : List ℕ) → cond b (Some xs) None ≡ Some bytes → (b ≡ true) × (xs ≡ bytes)
inv_choice true xs bytes h = (refl, cc)
inv_choice false xs bytes h = absurd cc

hex_is_plain : (c : ℕ) → is_hex c ≡ true → is_plain c ≡ true
hex_is_plain c h = grind (arith, nat_tests)

hex_plain : (cs : List ℕ) → each_byte is_hex cs ≡ true → each_byte is_plain cs ≡ true
unfolding each_byte
hex_plain [] h = refl
hex_plain (c ∷ cs) h =
    let p = both (is_hex c) (each_byte is_hex cs) h in
    let a = hex_is_plain c p.0 in
    let r = hex_plain cs p.1 in
    rw (a, r) refl

-- a body that is printed again: it begins and is read as before, has no other bytes than a line may have, and is no longer
pub record Reprints (version : ℕ) (text bytes : List ℕ) : Type 0 where
  pub begins : begins_a_body version (body_text bytes) ≡ true
  pub again : body_in (body_text bytes) ≡ Some bytes
  pub plain : each_byte is_plain (body_text bytes) ≡ true
  pub short : length (body_text bytes) ≤ length text

plain_again : (version : ℕ) (text bytes : List ℕ) → each_byte is_plain bytes ≡ true → length bytes + 1 ≤ length text → Reprints version text bytes
unfolding body_in each_byte
plain_again version text bytes h short = record { begins = rw h refl; again = rw h refl; plain = rw (h, h) refl; short = rw h (omega arith) }

hex_by : (version : ℕ) (text bytes : List ℕ) (b : Bool) → each_byte is_plain bytes ≡ b → nat_le 2 version ≡ true → each_byte is_byte bytes ≡ true → 2 * length bytes + 1 ≤ length text → Reprints version text bytes
unfolding body_in each_byte
hex_by version text bytes true e two small short = plain_again version text bytes e (omega arith)
hex_by version text bytes false e two small short =
    let r = hex_again bytes small in
    let k = hex_plain (hex_text bytes) (are_hex bytes small) in
    let n = hex_length bytes in
    record { begins = rw (e, two) refl; again = rw (e, r) refl; plain = rw (e, k) refl; short = rw e (omega arith) }

-- an x body has two digits for each byte
digits_again : (version : ℕ) (mark : ℕ) (cs bytes : List ℕ) → nat_le 2 version ≡ true → bytes_of_hex cs ≡ Some bytes → Reprints version (mark ∷ cs) bytes
digits_again version mark cs bytes two h =
    let p = inv_choice (is_hex_text cs) (pairs cs) bytes h in
    let q = both (eqb (length cs % 2) 0) (each_byte is_hex cs) p.0 in
    let even : length cs % 2 ≡ 0 = eq_of (length cs % 2) 0 q.0 in
    let n : length bytes ≡ length cs / 2 = ap length (sym p.1) ∙ pairs_len cs in
    let small : each_byte is_byte bytes ≡ true = subst (λ xs. each_byte is_byte xs ≡ true) p.1 (pairs_small cs q.1) in
    hex_by version (mark ∷ cs) bytes (each_byte is_plain bytes) refl two small (omega arith)

by_mark : (version c : ℕ) (cs bytes : List ℕ) (b : Bool) → eqb c 61 ≡ b → each_byte is_plain cs ≡ true → (eqb c 61 || (nat_le 2 version && eqb c 120)) ≡ true → cond (eqb c 61) (Some cs) (bytes_of_hex cs) ≡ Some bytes → Reprints version (c ∷ cs) bytes
by_mark version c cs bytes true e plain begins h =
    let g : ◌≡◌ {A = Option (List ℕ)} (Some cs) (Some bytes) = rw e at h in
    let same : cs ≡ bytes = cc in
    plain_again version (c ∷ cs) bytes (subst (λ xs. each_byte is_plain xs ≡ true) same plain) (omega (arith, ap length same))
by_mark version c cs bytes false e plain begins h =
    let g : bytes_of_hex cs ≡ Some bytes = rw e at h in
    let two : nat_le 2 version ≡ true = grind (arith, nat_tests) in
    digits_again version c cs bytes two g

pub reprints : (version : ℕ) (text bytes : List ℕ) → each_byte is_plain text ≡ true → begins_a_body version text ≡ true → body_in text ≡ Some bytes → Reprints version text bytes
unfolding body_in each_byte
reprints version [] bytes plain begins h = absurd cc
reprints version (c ∷ cs) bytes plain begins h = by_mark version c cs bytes (eqb c 61) refl (both (is_plain c) (each_byte is_plain cs) plain).1 begins h
