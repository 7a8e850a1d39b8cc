-- A text of which each byte is written as itself, and an act that is too short to be cut.
use Rattle.std.proofs.Common.{◌≡◌, ℕ, zero, suc, ◌==◌, ◌<◌, ◌≤◌, Bool, false, ◌||◌, cond, Option, Some, None, List, [], ◌∷◌, ◌++◌, length, take, codes, refl, ap, ◌∙◌, arith}
use Rattle.std.specs.List.{list_any, position}
use Rattle.std.proofs.lemmas.Bool.{le-leb, lt-leb, or_parts}
use Rattle.picture_texts.specs.declared.limits.TheConstants.{SHORT_ACT_LIMIT}
use Rattle.picture_texts.specs.Filling.{cut, markup, most_shown, shown_act}
use Rattle.picture_texts.specs.Stretches.{is_special}
use Rattle.picture_texts.proofs.Stretches.{plain_byte}

or_false : (a b : Bool) → a ≡ false → b ≡ false → (a || b) ≡ false
or_false a b h k = rw (h, k) refl

pub plain_is : (text : List ℕ) → list_any is_special text ≡ false → markup text ≡ text
plain_is [] h = refl
plain_is (c ∷ cs) h =
    let two = or_parts (is_special c) (list_any is_special cs) h in
    ap (λ t. t ++ markup cs) (plain_byte c two.0) ∙ ap (λ t. c ∷ t) (plain_is cs two.1)

-- so is each front of it, and each end
plain_front_of : (n : ℕ) (text : List ℕ) → list_any is_special text ≡ false → list_any is_special (take n text) ≡ false
plain_front_of zero text h = refl
plain_front_of (suc n) [] h = h
plain_front_of (suc n) (c ∷ cs) h =
    let two = or_parts (is_special c) (list_any is_special cs) h in
    or_false (is_special c) (list_any is_special (take n cs)) two.0 (plain_front_of n cs two.1)

pub plain_end : (front text : List ℕ) → list_any is_special (front ++ text) ≡ false → list_any is_special text ≡ false
plain_end [] text h = h
plain_end (c ∷ cs) text h = plain_end cs text (or_parts (is_special c) (list_any is_special (cs ++ text)) h).1

plain_join : (front text : List ℕ) → list_any is_special front ≡ false → list_any is_special text ≡ false → list_any is_special (front ++ text) ≡ false
plain_join [] text h k = k
plain_join (c ∷ cs) text h k =
    let two = or_parts (is_special c) (list_any is_special cs) h in
    or_false (is_special c) (list_any is_special (cs ++ text)) two.0 (plain_join cs text two.1 k)

-- where it is cut, what is left of it is as it was
pub plain_long_is : (most : ℕ) (text : List ℕ) → most < length text → list_any is_special text ≡ false → markup (cut most text) ≡ take most text ++ codes "..."
plain_long_is most text long h =
    ap (λ b. markup (cond b text (take most text ++ codes "..."))) (lt-leb (length text) most long)
    ∙ plain_is (take most text ++ codes "...") (plain_join (take most text) (codes "...") (plain_front_of most text h) refl)

short_for : (o : Option ℕ) (n : ℕ) → n ≤ SHORT_ACT_LIMIT → n ≤ most_shown o
short_for None n h = omega (arith, h)
short_for (Some at) n h = omega (arith, h)

uncut : (most : ℕ) (text : List ℕ) → length text ≤ most → cut most text ≡ text
uncut most text h = ap (λ b. cond b text (take most text ++ codes "...")) (le-leb (length text) most h)

pub plain_short_is : (most : ℕ) (text : List ℕ) → length text ≤ most → list_any is_special text ≡ false → markup (cut most text) ≡ text
plain_short_is most text h plain = ap markup (uncut most text h) ∙ plain_is text plain

pub short_is : (act : List ℕ) → length act ≤ SHORT_ACT_LIMIT → shown_act act ≡ markup act
short_is act h =
    let at = position (λ c. c == 61) act in
    ap markup (uncut (most_shown at) act (short_for at (length act) h))

pub short_plain_is : (act : List ℕ) → length act ≤ SHORT_ACT_LIMIT → list_any is_special act ≡ false → shown_act act ≡ act
short_plain_is act h plain = short_is act h ∙ plain_is act plain
