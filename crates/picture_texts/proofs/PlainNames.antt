-- A name has no byte that markup knows.
use Rattle.std.proofs.Common.{◌≡◌, ℕ, ◌+◌, ◌%◌, ◌<◌, ◌^◌, true, List, [], ◌∷◌, ◌++◌, decimal, refl, arith}
use Rattle.std.proofs.lemmas.Bool.{ne_eqb}
use Rattle.std.proofs.lemmas.Fmt.{decimal_by_steps}
use Rattle.chorus_ui.specs.declared.kind.Kind.{Kind}
use Rattle.chorus_ui.specs.declared.kind.Kind.TheVariants.{Actor, Port, Group}
use Rattle.chorus_ui.specs.Kind.{kind_letter}
use Rattle.picture_texts.specs.Reading.{NamesAreRead, Reads, End, Plain, is_plain}

abbrev ArePlain : List ℕ → Type 0
ArePlain [] = Unit {0}
ArePlain (c ∷ cs) = (is_plain c ≡ true) × ArePlain cs

plain-read : (cs : List ℕ) → ArePlain cs → Reads cs cs
plain-read [] h = End
plain-read (c ∷ cs) h = Plain c cs cs h.0 (plain-read cs h.1)

plain-append : (cs ds : List ℕ) → ArePlain cs → ArePlain ds → ArePlain (cs ++ ds)
plain-append [] ds h k = k
plain-append (c ∷ cs) ds h k = (h.0, plain-append cs ds h.1 k)

-- digits are 48 to 57
plain-digit : (n : ℕ) → n < 10 → is_plain (48 + n) ≡ true
plain-digit n h =
    rw (
      ne_eqb (48 + n) 60 (λ e. omega (arith, h, e)),
      ne_eqb (48 + n) 62 (λ e. omega (arith, h, e)),
      ne_eqb (48 + n) 38 (λ e. omega (arith, h, e)),
      ne_eqb (48 + n) 39 (λ e. omega (arith, h, e)),
      ne_eqb (48 + n) 34 (λ e. omega (arith, h, e)),
    ) refl

plain-decimal : (n : ℕ) → n < 2 ^ 64 → ArePlain (decimal n)
plain-decimal =
    decimal_by_steps (λ m ds. ArePlain ds) (λ m l. (plain-digit m l, tt))
    (λ m ds l h. plain-append ds ((48 + m % 10) ∷ []) h (plain-digit (m % 10) (omega arith), tt))

plain-letter : (k : Kind) → is_plain (kind_letter k) ≡ true
plain-letter Actor = refl
plain-letter Port = refl
plain-letter Group = refl

pub names_are_read : NamesAreRead
names_are_read q h =
    plain-read _ (plain-append (decimal q.site) _ (plain-decimal q.site (omega (arith, h.site_in_16_bits)))
    (refl, (plain-letter q.kind, (refl, plain-decimal q.number (omega (arith, h.number_in_40_bits))))))
