-- What was read is what the input gives.
use Rattle.std.proofs.Common.{◌≡◌, ℕ, ◌+◌, ◌<◌, ◌≤◌, Option, Some, None, IfSome, Result, Err, List, ◌++◌, length, take, take_all, sym, ◌∙◌, ap, subst₂, arith}
use Rattle.std.proofs.Math.Seq.{take-append_seam}
use Rattle.std.specs.Io.KnownBytes.{Consumes}
use Rattle.chorus_io.specs.Bytes.{IsReadWithin}
use Rattle.chorus_ui.specs.declared.layout.Layout.{Layout}
use Rattle.chorus_scene.specs.declared.limits.TheConstants.{TEXT_LIMIT}
use Rattle.chorus_scene.specs.Scene.{Scene}
use Rattle.chorus_scene.specs.Grammar.{read_scene}
use Rattle.chorus_scene.proofs.Lines.{too_long}
use Rattle.chorus_report.specs.Reading.{bytes_read, IsGiven, ReadsNoFurther}

front : (text input : List ℕ) → text ≡ input → length text ≤ TEXT_LIMIT → bytes_read input ≡ text
front text input whole within =
    let short : length text ≤ TEXT_LIMIT + 1 = omega (arith, within) in ap bytes_read (sym whole) ∙ take_all (TEXT_LIMIT + 1) text short

-- the whole input was read
pub whole-given : (l : Layout) (told : Option (List ℕ)) (text : List ℕ) (outcome : Result Scene (ℕ × ℕ)) → IfSome told (λ input. text ≡ input) → length text ≤ TEXT_LIMIT → read_scene l text ≡ outcome → IsGiven l told outcome
whole-given l told text outcome whole within is = record { bytes = text; read = by-told told whole; given = is }
  where
    by-told : (told : Option (List ℕ)) → IfSome told (λ input. text ≡ input) → IfSome told (λ input. text ≡ bytes_read input)
    by-told None h = tt
    by-told (Some input) h = sym (front text input h within)

-- one byte more than the limit was read
long-read : (told left : Option (List ℕ)) (given : List ℕ) → Consumes told left given → length given ≡ TEXT_LIMIT + 1 → IfSome told (λ input. given ≡ bytes_read input)
long-read None left given consumed long = tt
long-read (Some input) None given consumed long = absurd consumed
long-read (Some input) (Some rest) given consumed long =
    sym (ap bytes_read consumed ∙ (ap (λ n. take n (given ++ rest)) (sym long) ∙ take-append_seam given rest))

long-given : (l : Layout) (told left : Option (List ℕ)) (given : List ℕ) → Consumes told left given → length given ≡ TEXT_LIMIT + 1 → IsGiven l told (Err (0, 6))
long-given l told left given consumed long =
    let over : TEXT_LIMIT < length given = omega (arith, long) in
    record { bytes = given; read = long-read told left given consumed long; given = too_long l given over }

pub long-given-as : (l : Layout) (told left : Option (List ℕ)) (given : List ℕ) (line reason : ℕ) → Consumes told left given → length given ≡ TEXT_LIMIT + 1
    → line ≡ 0 → reason ≡ 6 → IsGiven l told (Err (line, reason))
long-given-as l told left given line reason consumed long one two =
    subst₂ (λ m n. IsGiven l told (Err (m, n))) (sym one) (sym two) (long-given l told left given consumed long)

-- No more was read than one byte more than the limit.

pub within-most : (old new : Option (List ℕ)) → (bytes : List ℕ) × IsReadWithin TEXT_LIMIT bytes old new → ReadsNoFurther old new
within-most old new (bytes, read) = let few = read.1 in (bytes, (read.0, omega (arith, few)))
