-- Answers both ways.
use Rattle.std.proofs.Common.{◌≡◌, ℕ, zero, suc, ◌^◌, ◌<◌, ◌≤◌, Bool, true, ◌&&◌, nat_le, List, ◌++◌, Result, Ok, refl, sym, ap, subst, ◌∙◌, arith}
use Rattle.std.proofs.lemmas.Bool.{and_parts}
use Rattle.std.proofs.lemmas.Bool.Decides.{nat_tests}
use Rattle.chorus_ui.specs.declared.limits.TheConstants.{MEMBERS_LIMIT, PENDING_LIMIT}
use Rattle.chorus_entry.specs.declared.answer.Answer.{Answer}
use Rattle.chorus_entry.specs.declared.answer.Answer.TheVariants.{Accepted, Full, Stale, Early, NoPort, Already, ClientsFull, Elsewhere, NoMember, Chosen, Gone}
use Rattle.chorus_entry.specs.Ranges.{is_from, is_place_number, has_ranges_of_answer, is_told, is_reported}
use Rattle.chorus_frame.specs.Fault.{Fault, Range}
use Rattle.chorus_frame.specs.Fault as faults
use Rattle.chorus_frame.specs.Numbers.{number}
use Rattle.chorus_frame.specs.Laws.{AreBytes}
use Rattle.chorus_frame.specs.Spelling.{located_fields, answer_fields}
use Rattle.chorus_frame.specs.Reading.{code_at, up_to_clock_at, place_at, accepted_at, full_at, located_at, stale_at, early_at, elsewhere_at, chosen_at, answer_of, answer_at, is_told_code, is_reported_code}
use Rattle.chorus_frame.proofs.Numbers.{ok_is}
use Rattle.chorus_frame.proofs.Formats.{Taken, IsFormat, step, join, IsTested, tested_format, assoc2, from_nat_le, both}

-- ---- places and hops

pub place_format : IsFormat ℕ (IsTested 2 is_place_number) (number 2) place_at
place_format = tested_format 2 is_place_number Range

pub up_to_clock_format : (clock : ℕ) → IsFormat ℕ (IsTested 8 (λ n. nat_le n clock)) (number 8) (up_to_clock_at clock)
up_to_clock_format clock = tested_format 8 (λ n. nat_le n clock) Range

-- what is within its range fits its field
pub up_to_clock_fits : (clock n : ℕ) → clock < 2 ^ 64 → nat_le n clock ≡ true → IsTested 8 (λ n. nat_le n clock) n
up_to_clock_fits clock n held fit = let top = from_nat_le n clock fit in (omega arith, fit)

pub place_fits : (n : ℕ) → is_place_number n ≡ true → IsTested 2 is_place_number n
place_fits n fit = (grind (arith, nat_tests), fit)

full_fits : (n : ℕ) → is_from 1 PENDING_LIMIT n ≡ true → IsTested 1 (is_from 1 PENDING_LIMIT) n
full_fits n fit = (grind (arith, nat_tests), fit)

count_fits : (n : ℕ) → is_from 1 MEMBERS_LIMIT n ≡ true → IsTested 2 (is_from 1 MEMBERS_LIMIT) n
count_fits n fit = (grind (arith, nat_tests), fit)

abbrev IsLocated : ℕ → ℕ × ℕ → Type 0
IsLocated clock at = (is_place_number at.0 && nat_le at.1 clock) ≡ true

abbrev located : ℕ × ℕ → List ℕ
located at = located_fields at.0 at.1

located-takes : (clock : ℕ) (bytes : List ℕ) (x : ℕ × ℕ) (rest : List ℕ) → AreBytes bytes → located_at clock bytes ≡ Ok (x, rest) → Taken bytes (located x) rest × IsLocated clock x
unfolding located_at
located-takes clock bytes x rest are e =
    let a = step place_format _ bytes (x, rest) are e in
    let b = step (up_to_clock_format clock) _ a.rest (x, rest) a.taken.rest_bytes a.on in
    let made : (ℕ × ℕ) × List ℕ = ((a.value, b.value), b.rest) in
    subst (λ (p : (ℕ × ℕ) × List ℕ). Taken bytes (located p.0) p.1 × IsLocated clock p.0) (ok_is made (x, rest) b.on) (join a.taken b.taken, both _ _ a.fit.1 b.fit.1)

located-again : (clock to hop : ℕ) (rest : List ℕ) → clock < 2 ^ 64 → IsLocated clock (to, hop) → located_at clock (located_fields to hop ++ rest) ≡ Ok ((to, hop), rest)
unfolding located_at
located-again clock to hop rest held fit =
    let p = and_parts (is_place_number to) (nat_le hop clock) fit in
    ap (located_at clock) (assoc2 (number 2 to) (number 8 hop) rest)
    ∙ rw (place_format.again to (number 8 hop ++ rest) (place_fits to p.0), (up_to_clock_format clock).again hop rest (up_to_clock_fits clock hop held p.1)) refl

located_format : (clock : ℕ) → clock < 2 ^ 64 → IsFormat (ℕ × ℕ) (IsLocated clock) located (located_at clock)
located_format clock held = record { takes = located-takes clock; again = λ x rest fit. located-again clock x.0 x.1 rest held fit }

-- ---- answers

-- the code of an answer
abbrev pub code_of : Answer → ℕ
code_of (Accepted pos) = 1
code_of (Full len) = 2
code_of (Stale to hop) = 3
code_of (Early hop) = 4
code_of NoPort = 5
code_of Already = 6
code_of ClientsFull = 7
code_of (Elsewhere to hop) = 8
code_of NoMember = 9
code_of (Chosen count) = 10
code_of Gone = 11

pub told_code-of : (x : Answer) → is_told_code (code_of x) ≡ is_told x
told_code-of (Accepted pos) = refl
told_code-of (Full len) = refl
told_code-of (Stale to hop) = refl
told_code-of (Early hop) = refl
told_code-of NoPort = refl
told_code-of Already = refl
told_code-of ClientsFull = refl
told_code-of (Elsewhere to hop) = refl
told_code-of NoMember = refl
told_code-of (Chosen count) = refl
told_code-of Gone = refl

pub reported_code-of : (x : Answer) → is_reported_code (code_of x) ≡ is_reported x
reported_code-of (Accepted pos) = refl
reported_code-of (Full len) = refl
reported_code-of (Stale to hop) = refl
reported_code-of (Early hop) = refl
reported_code-of NoPort = refl
reported_code-of Already = refl
reported_code-of ClientsFull = refl
reported_code-of (Elsewhere to hop) = refl
reported_code-of NoMember = refl
reported_code-of (Chosen count) = refl
reported_code-of Gone = refl

-- what was taken is this answer, with this code
abbrev IsAnswer : ℕ → ℕ → List ℕ → Answer × List ℕ → Type 0
IsAnswer clock n bytes p = Taken bytes (answer_fields p.0) p.1 × (has_ranges_of_answer clock p.0 ≡ true) × (code_of p.0 ≡ n)

accepted-takes : (clock : ℕ) (bytes left : List ℕ) (x : Answer) (rest : List ℕ) → Taken bytes (number 1 1) left → accepted_at clock left ≡ Ok (x, rest) → IsAnswer clock 1 bytes (x, rest)
unfolding accepted_at
accepted-takes clock bytes left x rest code e =
    let a = step (up_to_clock_format clock) _ left (x, rest) code.rest_bytes e in
    let made : Answer × List ℕ = (Accepted a.value, a.rest) in
    subst (IsAnswer clock 1 bytes) (ok_is made (x, rest) a.on) (join code a.taken, a.fit.1, refl)

full-takes : (clock : ℕ) (bytes left : List ℕ) (x : Answer) (rest : List ℕ) → Taken bytes (number 1 2) left → full_at left ≡ Ok (x, rest) → IsAnswer clock 2 bytes (x, rest)
unfolding full_at
full-takes clock bytes left x rest code e =
    let a = step (tested_format 1 (is_from 1 PENDING_LIMIT) Range) _ left (x, rest) code.rest_bytes e in
    let made : Answer × List ℕ = (Full a.value, a.rest) in
    subst (IsAnswer clock 2 bytes) (ok_is made (x, rest) a.on) (join code a.taken, a.fit.1, refl)

stale-takes : (clock : ℕ) (bytes left : List ℕ) (x : Answer) (rest : List ℕ) → clock < 2 ^ 64 → Taken bytes (number 1 3) left → stale_at clock left ≡ Ok (x, rest) → IsAnswer clock 3 bytes (x, rest)
unfolding stale_at
stale-takes clock bytes left x rest held code e =
    let a = step (located_format clock held) _ left (x, rest) code.rest_bytes e in
    let made : Answer × List ℕ = (Stale a.value.0 a.value.1, a.rest) in
    subst (IsAnswer clock 3 bytes) (ok_is made (x, rest) a.on) (join code a.taken, a.fit, refl)

early-takes : (clock : ℕ) (bytes left : List ℕ) (x : Answer) (rest : List ℕ) → Taken bytes (number 1 4) left → early_at clock left ≡ Ok (x, rest) → IsAnswer clock 4 bytes (x, rest)
unfolding early_at
early-takes clock bytes left x rest code e =
    let a = step (up_to_clock_format clock) _ left (x, rest) code.rest_bytes e in
    let made : Answer × List ℕ = (Early a.value, a.rest) in
    subst (IsAnswer clock 4 bytes) (ok_is made (x, rest) a.on) (join code a.taken, a.fit.1, refl)

elsewhere-takes : (clock : ℕ) (bytes left : List ℕ) (x : Answer) (rest : List ℕ) → clock < 2 ^ 64 → Taken bytes (number 1 8) left → elsewhere_at clock left ≡ Ok (x, rest) → IsAnswer clock 8 bytes (x, rest)
unfolding elsewhere_at
elsewhere-takes clock bytes left x rest held code e =
    let a = step (located_format clock held) _ left (x, rest) code.rest_bytes e in
    let made : Answer × List ℕ = (Elsewhere a.value.0 a.value.1, a.rest) in
    subst (IsAnswer clock 8 bytes) (ok_is made (x, rest) a.on) (join code a.taken, a.fit, refl)

chosen-takes : (clock : ℕ) (bytes left : List ℕ) (x : Answer) (rest : List ℕ) → Taken bytes (number 1 10) left → chosen_at left ≡ Ok (x, rest) → IsAnswer clock 10 bytes (x, rest)
unfolding chosen_at
chosen-takes clock bytes left x rest code e =
    let a = step (tested_format 2 (is_from 1 MEMBERS_LIMIT) Range) _ left (x, rest) code.rest_bytes e in
    let made : Answer × List ℕ = (Chosen a.value, a.rest) in
    subst (IsAnswer clock 10 bytes) (ok_is made (x, rest) a.on) (join code a.taken, a.fit.1, refl)

abbrev answered : Answer → List ℕ → Result (Answer × List ℕ) Fault
answered x rest = Ok (x, rest)

-- an answer that is its code
bare-takes : (clock n : ℕ) (bytes left : List ℕ) (bare x : Answer) (rest : List ℕ) → IsAnswer clock n bytes (bare, left) → answered bare left ≡ answered x rest → IsAnswer clock n bytes (x, rest)
bare-takes clock n bytes left bare x rest is e = subst (IsAnswer clock n bytes) (ok_is (bare, left) (x, rest) e) is

answer-on : (clock n : ℕ) (bytes left : List ℕ) (x : Answer) (rest : List ℕ) → clock < 2 ^ 64 → 1 ≤ n → n ≤ 11 → Taken bytes (number 1 n) left → answer_of clock (n, left) ≡ Ok (x, rest) → IsAnswer clock n bytes (x, rest)
unfolding answer_of
answer-on clock zero bytes left x rest held low high code e = absurd (omega arith)
answer-on clock (suc zero) bytes left x rest held low high code e = accepted-takes clock bytes left x rest code e
answer-on clock (suc (suc zero)) bytes left x rest held low high code e = full-takes clock bytes left x rest code e
answer-on clock (suc (suc (suc zero))) bytes left x rest held low high code e = stale-takes clock bytes left x rest held code e
answer-on clock (suc (suc (suc (suc zero)))) bytes left x rest held low high code e = early-takes clock bytes left x rest code e
answer-on clock (suc (suc (suc (suc (suc zero))))) bytes left x rest held low high code e = bare-takes clock 5 bytes left NoPort x rest (code, refl, refl) e
answer-on clock (suc (suc (suc (suc (suc (suc zero)))))) bytes left x rest held low high code e = bare-takes clock 6 bytes left Already x rest (code, refl, refl) e
answer-on clock (suc (suc (suc (suc (suc (suc (suc zero))))))) bytes left x rest held low high code e = bare-takes clock 7 bytes left ClientsFull x rest (code, refl, refl) e
answer-on clock (suc (suc (suc (suc (suc (suc (suc (suc zero)))))))) bytes left x rest held low high code e = elsewhere-takes clock bytes left x rest held code e
answer-on clock (suc (suc (suc (suc (suc (suc (suc (suc (suc zero))))))))) bytes left x rest held low high code e = bare-takes clock 9 bytes left NoMember x rest (code, refl, refl) e
answer-on clock (suc (suc (suc (suc (suc (suc (suc (suc (suc (suc zero)))))))))) bytes left x rest held low high code e = chosen-takes clock bytes left x rest code e
answer-on clock (suc (suc (suc (suc (suc (suc (suc (suc (suc (suc (suc zero))))))))))) bytes left x rest held low high code e = bare-takes clock 11 bytes left Gone x rest (code, refl, refl) e
answer-on clock (suc (suc (suc (suc (suc (suc (suc (suc (suc (suc (suc (suc n)))))))))))) bytes left x rest held low high code e = absurd (omega arith)

-- which answers may stand at a place, and their codes
pub record IsSetting (may : Answer → Bool) (is_code : ℕ → Bool) : Type 0 where
  pub codes : (x : Answer) → is_code (code_of x) ≡ may x
  pub low : (n : ℕ) → is_code n ≡ true → 1 ≤ n
  pub high : (n : ℕ) → is_code n ≡ true → n ≤ 11

pub told_setting : IsSetting is_told is_told_code
told_setting = record { codes = told_code-of; low = λ n h. grind (arith, nat_tests); high = λ n h. grind (arith, nat_tests) }

pub reported_setting : IsSetting is_reported is_reported_code
reported_setting = record { codes = reported_code-of; low = λ n h. grind (arith, nat_tests); high = λ n h. grind (arith, nat_tests) }

abbrev pub IsGoodAnswer : (Answer → Bool) → ℕ → Answer → Type 0
IsGoodAnswer may clock x = (may x ≡ true) × (has_ranges_of_answer clock x ≡ true)

answer-takes : (may : Answer → Bool) (is_code : ℕ → Bool) → IsSetting may is_code → (clock : ℕ) → clock < 2 ^ 64 → (bytes : List ℕ) (x : Answer) (rest : List ℕ) → AreBytes bytes → answer_at is_code clock bytes ≡ Ok (x, rest) → Taken bytes (answer_fields x) rest × IsGoodAnswer may clock x
unfolding answer_at
answer-takes may is_code setting clock held bytes x rest are e =
    let s = step (tested_format 1 is_code faults.Kind) (answer_of clock) bytes (x, rest) are e in
    let t = answer-on clock s.value bytes s.rest x rest held (setting.low s.value s.fit.1) (setting.high s.value s.fit.1) s.taken s.on in
    (t.0, (sym (setting.codes x) ∙ ap is_code t.2 ∙ s.fit.1, t.1))

-- the code of an answer that may stand there is read
code-again : (may : Answer → Bool) (is_code : ℕ → Bool) → IsSetting may is_code → (x : Answer) (rest : List ℕ) → may x ≡ true → code_at is_code (number 1 (code_of x) ++ rest) ≡ Ok (code_of x, rest)
code-again may is_code setting x rest allowed =
    let is : is_code (code_of x) ≡ true = setting.codes x ∙ allowed in
    let top = setting.high (code_of x) is in
    (tested_format 1 is_code faults.Kind).again (code_of x) rest (omega arith, is)

answer-again : (may : Answer → Bool) (is_code : ℕ → Bool) → IsSetting may is_code → (clock : ℕ) → clock < 2 ^ 64 → (x : Answer) (rest : List ℕ) → IsGoodAnswer may clock x → answer_at is_code clock (answer_fields x ++ rest) ≡ Ok (x, rest)
unfolding answer_at answer_of accepted_at full_at stale_at early_at elsewhere_at chosen_at
answer-again may is_code setting clock held (Accepted pos) rest fit =
    ap (answer_at is_code clock) (assoc2 (number 1 1) (number 8 pos) rest)
    ∙ rw (code-again may is_code setting (Accepted pos) (number 8 pos ++ rest) fit.0, (up_to_clock_format clock).again pos rest (up_to_clock_fits clock pos held fit.1)) refl
answer-again may is_code setting clock held (Full len) rest fit =
    ap (answer_at is_code clock) (assoc2 (number 1 2) (number 1 len) rest)
    ∙ rw (code-again may is_code setting (Full len) (number 1 len ++ rest) fit.0, (tested_format 1 (is_from 1 PENDING_LIMIT) Range).again len rest (full_fits len fit.1)) refl
answer-again may is_code setting clock held (Stale to hop) rest fit =
    ap (answer_at is_code clock) (assoc2 (number 1 3) (located_fields to hop) rest)
    ∙ rw (code-again may is_code setting (Stale to hop) (located_fields to hop ++ rest) fit.0, located-again clock to hop rest held fit.1) refl
answer-again may is_code setting clock held (Early hop) rest fit =
    ap (answer_at is_code clock) (assoc2 (number 1 4) (number 8 hop) rest)
    ∙ rw (code-again may is_code setting (Early hop) (number 8 hop ++ rest) fit.0, (up_to_clock_format clock).again hop rest (up_to_clock_fits clock hop held fit.1)) refl
answer-again may is_code setting clock held NoPort rest fit = rw (code-again may is_code setting NoPort rest fit.0) refl
answer-again may is_code setting clock held Already rest fit = rw (code-again may is_code setting Already rest fit.0) refl
answer-again may is_code setting clock held ClientsFull rest fit = rw (code-again may is_code setting ClientsFull rest fit.0) refl
answer-again may is_code setting clock held (Elsewhere to hop) rest fit =
    ap (answer_at is_code clock) (assoc2 (number 1 8) (located_fields to hop) rest)
    ∙ rw (code-again may is_code setting (Elsewhere to hop) (located_fields to hop ++ rest) fit.0, located-again clock to hop rest held fit.1) refl
answer-again may is_code setting clock held NoMember rest fit = rw (code-again may is_code setting NoMember rest fit.0) refl
answer-again may is_code setting clock held (Chosen count) rest fit =
    ap (answer_at is_code clock) (assoc2 (number 1 10) (number 2 count) rest)
    ∙ rw (code-again may is_code setting (Chosen count) (number 2 count ++ rest) fit.0, (tested_format 2 (is_from 1 MEMBERS_LIMIT) Range).again count rest (count_fits count fit.1)) refl
answer-again may is_code setting clock held Gone rest fit = rw (code-again may is_code setting Gone rest fit.0) refl

pub answer_format : (may : Answer → Bool) (is_code : ℕ → Bool) → IsSetting may is_code → (clock : ℕ) → clock < 2 ^ 64 → IsFormat Answer (IsGoodAnswer may clock) answer_fields (answer_at is_code clock)
answer_format may is_code setting clock held = record {
  takes = answer-takes may is_code setting clock held;
  again = answer-again may is_code setting clock held;
}
