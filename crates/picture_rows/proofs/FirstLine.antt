-- A text is cut at the first byte that passes a test. So the line of an entry is found, and what is in it.
use Rattle.std.proofs.Common.{◌≡◌, ◌==◌, ℕ, suc, ◌-◌, ◌^◌, ◌<◌, Bool, true, false, not, ◌&&◌, List, [], ◌∷◌, ◌++◌, length, take, drop, decimal, refl, sym, ap, ◌∙◌, arith}
use Rattle.std.specs.Char.{is_ascii_digit}
use Rattle.std.specs.List.{list_all, list_any, position_or_len}
use Rattle.std.proofs.lemmas.Bool.{and_parts, eq-eqb, eqb-true, false≢true}
use Rattle.std.proofs.lemmas.List.{take_all}
use Rattle.chorus_ui.specs.Decimals.{all_digits}
use Rattle.chorus_ui.proofs.Decimals.{all_digits-decimal}
use Rattle.chorus_show.specs.Reading.{lacks}
use Rattle.picture_texts.specs.Stretches.{is_special}
use Rattle.picture_texts.proofs.Stretches.{first_here, first_later}
use Rattle.picture_rows.specs.Lines.{begins_with}

fails : (b : Bool) → not b ≡ true → b ≡ false
fails true h = sym h
fails false h = refl

passes : (b : Bool) → b ≡ false → not b ≡ true
passes true h = sym h
passes false h = refl

both_true : (a b : Bool) → a ≡ true → b ≡ true → (a && b) ≡ true
both_true a b h k = rw (h, k) refl

-- what stands before the first byte that passes, and what stands from there on
record IsCut (k : ℕ) (text word back : List ℕ) : Type 0 where
  front : take k text ≡ word
  rest : drop k text ≡ back

cut_later : (k c : ℕ) (text word back : List ℕ) → IsCut k text word back → IsCut (suc k) (c ∷ text) (c ∷ word) back
cut_later k c text word back h = record { front = ap (λ t. c ∷ t) h.front; rest = h.rest }

module _ (p : ℕ → Bool) (m : ℕ) (here : p m ≡ true) (more : List ℕ) where
  cut_first : (word : List ℕ) → list_all (λ x. not (p x)) word ≡ true → IsCut (position_or_len p (word ++ m ∷ more)) (word ++ m ∷ more) word (m ∷ more)
  cut_first [] h = let zero_is = first_here p m more here in record { front = ap (λ k. take k (m ∷ more)) zero_is; rest = ap (λ k. drop k (m ∷ more)) zero_is }
  cut_first (c ∷ cs) h =
      let two = and_parts (not (p c)) (list_all (λ x. not (p x)) cs) h in
      let next = first_later p c (cs ++ m ∷ more) (fails (p c) two.0) in
      let later = cut_later (position_or_len p (cs ++ m ∷ more)) c (cs ++ m ∷ more) cs (m ∷ more) (cut_first cs two.1) in
      record {
        front = ap (λ k. take k (c ∷ (cs ++ m ∷ more))) next ∙ later.front;
        rest = ap (λ k. drop k (c ∷ (cs ++ m ∷ more))) next ∙ later.rest;
      }

-- so it is where a byte is sought, and what stands behind it is known
pub cut_word : (mark k : ℕ) (text front back word more : List ℕ) → k ≡ position_or_len (λ c. c == mark) text → front ≡ take k text → back ≡ drop k text
    → lacks mark word ≡ true → text ≡ word ++ mark ∷ more → (front ≡ word) × (back ≡ mark ∷ more)
cut_word mark k text front back word more at before behind lacking is =
    let cut = cut_first (λ c. c == mark) mark (eq-eqb mark mark refl) more word lacking in
    let place : k ≡ position_or_len (λ c. c == mark) (word ++ mark ∷ more) = at ∙ ap (position_or_len (λ c. c == mark)) is in
    (before ∙ (λ i. take (place i) (is i)) ∙ cut.front, behind ∙ (λ i. drop (place i) (is i)) ∙ cut.rest)

pub tail_is : (back more : List ℕ) (m : ℕ) → back ≡ m ∷ more → take (length back - 1) (drop 1 back) ≡ more
tail_is back more m h = ap (λ b. take (length b - 1) (drop 1 b)) h ∙ take_all (length (m ∷ more) - 1) more (omega arith)

-- where the first special byte is the LF, the line has none
none_special : (more : List ℕ) (line : List ℕ) → lacks 10 line ≡ true → begins_with 10 (drop (position_or_len is_special (line ++ 10 ∷ more)) (line ++ 10 ∷ more)) ≡ true
    → list_all (λ x. not (is_special x)) line ≡ true
none_special more [] h first = refl
none_special more (c ∷ cs) h first = by (is_special c) refl (none_special more cs two.1)
  where
    two : (not (c == 10) ≡ true) × (lacks 10 cs ≡ true)
    two = and_parts (not (c == 10)) (lacks 10 cs) h

    by : (b : Bool) → is_special c ≡ b
        → (begins_with 10 (drop (position_or_len is_special (cs ++ 10 ∷ more)) (cs ++ 10 ∷ more)) ≡ true → list_all (λ x. not (is_special x)) cs ≡ true)
        → (not (is_special c) && list_all (λ x. not (is_special x)) cs) ≡ true
    by true is later =
        let same : (c == 10) ≡ true = sym (ap (λ k. begins_with 10 (drop k (c ∷ (cs ++ 10 ∷ more)))) (first_here is_special c (cs ++ 10 ∷ more) is)) ∙ first in
        absurd (false≢true (sym (fails (c == 10) two.0) ∙ same))
    by false is later =
        both_true _ _ (passes (is_special c) is)
        (later (sym (ap (λ k. begins_with 10 (drop k (c ∷ (cs ++ 10 ∷ more)))) (first_later is_special c (cs ++ 10 ∷ more) is)) ∙ first))

none_any : (line : List ℕ) → list_all (λ x. not (is_special x)) line ≡ true → list_any is_special line ≡ false
none_any [] h = refl
none_any (c ∷ cs) h =
    let two = and_parts (not (is_special c)) (list_all (λ x. not (is_special x)) cs) h in
    let here = fails (is_special c) two.0 in
    let later = none_any cs two.1 in
    rw (here, later) refl

pub cut_plain : (k : ℕ) (text front back line more : List ℕ) → k ≡ position_or_len is_special text → front ≡ take k text → back ≡ drop k text
    → lacks 10 line ≡ true → text ≡ line ++ 10 ∷ more → begins_with 10 back ≡ true → (front ≡ line) × (back ≡ 10 ∷ more) × (list_any is_special line ≡ false)
cut_plain k text front back line more at before behind lacking is first =
    let place : k ≡ position_or_len is_special (line ++ 10 ∷ more) = at ∙ ap (position_or_len is_special) is in
    let back_is : back ≡ drop (position_or_len is_special (line ++ 10 ∷ more)) (line ++ 10 ∷ more) = behind ∙ (λ i. drop (place i) (is i)) in
    let none = none_special more line lacking (sym (ap (begins_with 10) back_is) ∙ first) in
    let cut = cut_first is_special 10 refl more line none in
    (before ∙ (λ i. take (place i) (is i)) ∙ cut.front, back_is ∙ cut.rest, none_any line none)

-- What is in a line.

digit_apart : (c : ℕ) → is_ascii_digit c ≡ true → not (c == 32) ≡ true
digit_apart c digit = by (c == 32) refl
  where
    by : (b : Bool) → (c == 32) ≡ b → not b ≡ true
    by true e = absurd (false≢true (sym (ap is_ascii_digit (eqb-true c 32 e)) ∙ digit))
    by false e = refl

digits_apart : (ds : List ℕ) → all_digits ds ≡ true → lacks 32 ds ≡ true
digits_apart [] h = refl
digits_apart (c ∷ ds) h =
    let two = and_parts (is_ascii_digit c) (all_digits ds) h in
    both_true _ _ (digit_apart c two.0) (digits_apart ds two.1)

pub decimal_apart : (n : ℕ) → n < 2 ^ 64 → lacks 32 (decimal n) ≡ true
decimal_apart n h = digits_apart (decimal n) (all_digits-decimal n h)
