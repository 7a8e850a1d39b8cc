-- A number that is read is the number that was written, and what was written is read again.
use Rattle.std.proofs.Common.{◌≡◌, ℕ, zero, suc, ◌+◌, ◌*◌, ◌/◌, ◌%◌, ◌^◌, ◌<◌, ◌≤◌, Bool, true, false, cond, ltb, List, [], ◌∷◌, ◌++◌, length, take, drop, Result, Ok, Err, refl, sym, ap, ◌∙◌, arith, inl, inr}
use Rattle.std.proofs.Math.Nat.{mul-add-mod_self_right, mod-eq_of_lt, mod-lt, one-le-pow, mul-div_cancel}
use Rattle.std.proofs.lemmas.Bool.{cases_lt, ltb-false, le-ltb}
use Rattle.std.proofs.lemmas.List.{take_at, drop_at, take-append-drop, length-append, length-take, get_or-drop, get_or-take, get_or_past, nil_from_length}
use Rattle.std.specs.Int.{byte_at, bytes_high_first}
use Rattle.byteorder.specs.Endian.{big_from, big_number, big_bytes}
use Rattle.byteorder.specs.Numbers.{big_from-cons, big_from-take, big_from-lt, big_from-bytes, big_number-reads_back, length-bytes_high_first}
use Rattle.chorus_frame.specs.Fault.{Fault, Short}
use Rattle.chorus_frame.specs.Numbers.{◌>>=◌, number, number_at, bytes_at}
use Rattle.chorus_frame.specs.Laws.{AreBytes}

pub AreBytes-drop : (n : ℕ) (bytes : List ℕ) → AreBytes bytes → AreBytes (drop n bytes)
AreBytes-drop n bytes h i = rw get_or-drop (h (n + i))

AreBytes-take : (n : ℕ) (bytes : List ℕ) → AreBytes bytes → AreBytes (take n bytes)
AreBytes-take n bytes h i =
    elim (cases_lt i n) [
      | inl lt ↦ rw (get_or-take n bytes i 0 lt) (h i)
      | inr le ↦ rw (get_or_past (take n bytes) i 0 (omega (arith, length-take n bytes))) (omega arith)
    ]

AreBytes-tail : (b : ℕ) (bytes : List ℕ) → AreBytes (b ∷ bytes) → AreBytes bytes
AreBytes-tail b bytes h i = h (suc i)

-- the value of a step that did not fail
pub bind_ok : {A B : Type 0} (r : Result A Fault) (f : A → Result B Fault) (y : B) → (r >>= f) ≡ Ok y → (x : A) × (r ≡ Ok x) × (f x ≡ Ok y)
bind_ok (Ok x) f y e = (x, refl, e)
bind_ok (Err d) f y e = absurd cc

-- a test that did not fail
pub short_ok : {A : Type 0} (b : Bool) (d : Fault) (x y : A) → cond b (Err d) (Ok x) ≡ Ok y → (b ≡ false) × (x ≡ y)
short_ok true d x y e = absurd cc
short_ok false d x y e = (refl, cc)

pub test_ok : {A : Type 0} (b : Bool) (d : Fault) (x y : A) → cond b (Ok x) (Err d) ≡ Ok y → (b ≡ true) × (x ≡ y)
test_ok true d x y e = (refl, cc)
test_ok false d x y e = absurd cc

abbrev done : {A : Type 0} → A → Result A Fault
done x = Ok x

pub ok_is : {A : Type 0} (x y : A) → done x ≡ done y → x ≡ y
ok_is x y e = cc

-- two digits to the base c are one way alone
digits : (x y r s c : ℕ) → zero < c → r < c → s < c → x * c + r ≡ y * c + s → (x ≡ y) × (r ≡ s)
digits x y r s c pos lt_r lt_s e =
    let low : r ≡ s = sym (mod-eq_of_lt lt_r) ∙ sym (mul-add-mod_self_right x c r) ∙ ap (λ (n : ℕ). n % c) e ∙ mul-add-mod_self_right y c s ∙ mod-eq_of_lt lt_s in
    let high : x * c ≡ y * c = omega arith in
    (sym (mul-div_cancel x pos) ∙ ap (λ (n : ℕ). n / c) high ∙ mul-div_cancel y pos, low)

-- so many bytes are told by their number
same_bytes : (n : ℕ) (xs ys : List ℕ) → length xs ≡ n → length ys ≡ n → AreBytes xs → AreBytes ys → big_from 0 n xs ≡ big_from 0 n ys → xs ≡ ys
same_bytes zero xs ys a b f g e = nil_from_length xs a ∙ sym (nil_from_length ys b)
same_bytes (suc n) [] ys a b f g e = absurd (omega arith)
same_bytes (suc n) (x ∷ xs) [] a b f g e = absurd (omega arith)
same_bytes (suc n) (x ∷ xs) (y ∷ ys) a b f g e =
    let pos : zero < 256 ^ n = let h = one-le-pow n 256 (omega arith) in omega arith in
    let left = big_from-cons 0 n x xs in
    let right = big_from-cons 0 n y ys in
    let fits_x = big_from-lt 0 n xs (AreBytes-tail x xs f) in
    let fits_y = big_from-lt 0 n ys (AreBytes-tail y ys g) in
    let parts = digits x y (big_from 0 n xs) (big_from 0 n ys) (256 ^ n) pos fits_x fits_y (ap (λ (r : ℕ). x * 256 ^ n + r) (sym left) ∙ e ∙ ap (λ (r : ℕ). y * 256 ^ n + r) right) in
    let rest = same_bytes n xs ys (omega arith) (omega arith) (AreBytes-tail x xs f) (AreBytes-tail y ys g) parts.1 in
    λ i. parts.0 i ∷ rest i

byte_at-fits : (k x : ℕ) → byte_at k x < 256
byte_at-fits zero x = mod-lt x {m = 256} (omega arith)
byte_at-fits (suc k) x = mod-lt (x / 256 ^ suc k) {m = 256} (omega arith)

AreBytes-bytes : (n x : ℕ) → AreBytes (bytes_high_first n x)
AreBytes-bytes zero x i = omega arith
AreBytes-bytes (suc n) x zero = byte_at-fits n x
AreBytes-bytes (suc n) x (suc i) = AreBytes-bytes n x i

-- the bytes of the number that bytes are
number-back : (width : ℕ) (bytes : List ℕ) → width ≤ length bytes → AreBytes bytes → big_bytes width (big_number width bytes) ≡ take width bytes
number-back width bytes long fits =
    let n = big_number width bytes in
    let e : big_from 0 width (bytes_high_first width n) ≡ n % 256 ^ width = ap (big_from 0 width) (sym (append-nil-here (bytes_high_first width n))) ∙ big_from-bytes width n [] in
    let top = big_from-lt 0 width bytes fits in
    let same : big_from 0 width (bytes_high_first width n) ≡ big_from 0 width (take width bytes) = e ∙ mod-eq_of_lt top ∙ sym (big_from-take 0 width width bytes (omega arith)) in
    same_bytes width (bytes_high_first width n) (take width bytes) (length-bytes_high_first width n) (omega (arith, length-take width bytes)) (AreBytes-bytes width n) (AreBytes-take width bytes fits) same
  where
    append-nil-here : (xs : List ℕ) → xs ++ [] ≡ xs
    append-nil-here [] = refl
    append-nil-here (x ∷ xs) = ap (λ (ys : List ℕ). x ∷ ys) (append-nil-here xs)

pub number-takes : (width : ℕ) (bytes : List ℕ) (n : ℕ) (rest : List ℕ) → AreBytes bytes → number_at width bytes ≡ Ok (n, rest) → (bytes ≡ number width n ++ rest) × AreBytes rest × (n < 256 ^ width)
unfolding number_at number
number-takes width bytes n rest fits e =
    let g = short_ok (ltb (length bytes) width) Short (big_number width bytes, drop width bytes) (n, rest) e in
    let long : width ≤ length bytes = ltb-false _ _ g.0 in
    let n-is : big_number width bytes ≡ n = ap (λ (p : ℕ × List ℕ). p.0) g.1 in
    let rest-is : drop width bytes ≡ rest = ap (λ (p : ℕ × List ℕ). p.1) g.1 in
    let front : big_bytes width n ≡ take width bytes = rw (← n-is) (number-back width bytes long fits) in
    (rw (front, ← rest-is) (sym (take-append-drop width bytes)), rw (← rest-is) (AreBytes-drop width bytes fits), rw (← n-is) (big_from-lt 0 width bytes fits))

pub number-again : (width n : ℕ) (rest : List ℕ) → n < 256 ^ width → number_at width (number width n ++ rest) ≡ Ok (n, rest)
unfolding number_at number
number-again width n rest lt =
    let len = length-bytes_high_first width n in
    let long : ltb (length (bytes_high_first width n ++ rest)) width ≡ false = le-ltb _ _ (omega (arith, length-append (bytes_high_first width n) rest)) in
    rw (long, big_number-reads_back width n rest lt, drop_at (bytes_high_first width n) rest width len) refl

pub bytes-takes : (count : ℕ) (bytes text rest : List ℕ) → AreBytes bytes → bytes_at count bytes ≡ Ok (text, rest) → (bytes ≡ text ++ rest) × AreBytes rest × (length text ≡ count)
unfolding bytes_at
bytes-takes count bytes text rest fits e =
    let g = short_ok (ltb (length bytes) count) Short (take count bytes, drop count bytes) (text, rest) e in
    let long : count ≤ length bytes = ltb-false _ _ g.0 in
    let text-is : take count bytes ≡ text = ap (λ (p : List ℕ × List ℕ). p.0) g.1 in
    let rest-is : drop count bytes ≡ rest = ap (λ (p : List ℕ × List ℕ). p.1) g.1 in
    (rw (← text-is, ← rest-is) (sym (take-append-drop count bytes)), rw (← rest-is) (AreBytes-drop count bytes fits), rw (← text-is) (omega (arith, length-take count bytes)))

pub bytes-again : (text rest : List ℕ) → bytes_at (length text) (text ++ rest) ≡ Ok (text, rest)
unfolding bytes_at
bytes-again text rest =
    let long : ltb (length (text ++ rest)) (length text) ≡ false = le-ltb _ _ (omega (arith, length-append text rest)) in
    rw (long, take_at text rest (length text) refl, drop_at text rest (length text) refl) refl
