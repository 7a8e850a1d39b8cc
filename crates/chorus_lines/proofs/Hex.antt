-- Reading digits two by two.
use Rattle.std.proofs.Common.{◌≡◌, ℕ, ◌+◌, ◌-◌, ◌*◌, ◌/◌, ◌%◌, ◌≤◌, Bool, true, false, ◌&&◌, cond, eqb, List, [], ◌∷◌, length, take, drop, Ok, Some, None, IsSome, refl, sym, ◌∙◌, arith}
use Rattle.std.specs.Prelude.{◌==◌}
use Rattle.std.proofs.lemmas.Bool.Decides.{nat_tests}
use Rattle.chorus_lines.specs.Text.{each_byte}
use Rattle.std.specs.Option.{ForSome}
use Rattle.std.proofs.lemmas.List.{length-take, length-drop}
use Rattle.hex.specs.Hex.{hex_digit_value, decode_pairs, decode_sized}
use Rattle.hex.proofs.HexLemmas.{decode_of-even, decode_sized-twice}
use Rattle.chorus_lines.specs.Body.{pairs, hex_value, is_hex, is_hex_text, body_in}

pub pairs_len : (text : List ℕ) → length (pairs text) ≡ length text / 2
unfolding pairs
pairs_len [] = refl
pairs_len (c ∷ []) = refl
pairs_len (c ∷ d ∷ cs) = let e = pairs_len cs in omega arith

pub and_left : (a b : Bool) → (a && b) ≡ true → a ≡ true
and_left true b h = refl
and_left false b h = h

pub and_right : (a b : Bool) → (a && b) ≡ true → b ≡ true
and_right true b h = h
and_right false b h = cc

-- the kit decodes each two digits to the byte that they stand for
digit_of : (c : ℕ) → is_hex c ≡ true → hex_digit_value c ≡ Some (hex_value c)
digit_of c h = grind (arith, nat_tests)

pub decoded : (text : List ℕ) (i : ℕ) → each_byte is_hex text ≡ true → length text % 2 ≡ 0 → decode_pairs i text ≡ Ok (pairs text)
unfolding pairs each_byte decode_pairs
decoded [] i h even = refl
decoded (c ∷ []) i h even = absurd (omega arith)
decoded (c ∷ d ∷ cs) i h even =
    let tail = and_right (is_hex c) _ h in
    let high = digit_of c (and_left (is_hex c) _ h) in
    let low = digit_of d (and_left (is_hex d) _ tail) in
    let swap : hex_value c * 16 + hex_value d ≡ 16 * hex_value c + hex_value d = omega arith in
    let rest = decoded cs (i + 2) (and_right (is_hex d) _ tail) (omega arith) in
    rw (high, low, rest, swap) refl

is_even : (n : ℕ) → (n % 2 == 0) ≡ true → n % 2 ≡ 0
is_even n h = grind (arith, nat_tests)

small_by : (h b : Bool) (cs : List ℕ) → is_hex_text cs ≡ h → IsSome (cond b (Some cs) (cond h (Some (pairs cs)) None)) → ForSome (cond b (Some cs) (cond h (Some (pairs cs)) None)) (λ bytes. length bytes ≤ 4096) → length cs ≤ 8192
small_by h true cs hex is small = let few = small cs refl in omega arith
small_by true false cs hex is small =
    let even : length cs % 2 ≡ 0 = is_even (length cs) (and_left (length cs % 2 == 0) (each_byte is_hex cs) hex) in
    let n = pairs_len cs in
    let few = small (pairs cs) refl in
    omega arith
small_by false false cs hex is small = absurd cc

pub decodes : (text : List ℕ) (n : ℕ) → is_hex_text text ≡ true → 2 * n ≡ length text → decode_sized text n ≡ Ok (pairs text)
decodes text n h room =
    let even = is_even (length text) (and_left (length text % 2 == 0) (each_byte is_hex text) h) in
    decode_sized-twice text n (sym room) ∙ decode_of-even text even ∙ decoded text 0 (and_right (length text % 2 == 0) (each_byte is_hex text) h) even

-- a body within its limit has not too many digits
pub digits_small : (text : List ℕ) → 1 ≤ length text → IsSome (body_in text) → ForSome (body_in text) (λ bytes. length bytes ≤ 4096) → length (take (length text - 1) (drop 1 text)) ≤ 8192
unfolding body_in
digits_small [] some is small = absurd (omega arith)
digits_small (c ∷ cs) some is small =
    let k : length cs ≤ 8192 = small_by (is_hex_text cs) (eqb c 61) cs refl is small in
    omega (arith, k, length-take (length (c ∷ cs) - 1) (drop 1 (c ∷ cs)), length-drop 1 (c ∷ cs))
