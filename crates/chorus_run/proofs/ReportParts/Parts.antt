-- What was printed in parts is the whole.
use Rattle.std.proofs.Common.{◌≡◌, ℕ, suc, ◌+◌, ◌*◌, ◌≤◌, List, [], ◌∷◌, ◌++◌, length, map, take, drop, get_or, IfOk, OnOk, Result, Ok, Err, refl, sym, ap, ap₂, ◌∙◌, subst, arith}
use Rattle.std.specs.Borrow.{Bor}
use Rattle.std.specs.Global.{Vec}
use Rattle.std.specs.declared.alloc.AllocError.{AllocError}
use Rattle.std.proofs.lemmas.List.{map-append, take-append-drop, length-drop, drop-drop}
use Rattle.std.proofs.lemmas.List.Concat.{flat_map-append}
use Rattle.chorus_entry.specs.declared.entry.Entry.{Entry}
use Rattle.chorus_merge.specs.Steps.{lent}
use Rattle.chorus_show.specs.Bounds.{AreWithin}
use Rattle.chorus_show.specs.Lines.{entry_text}
use Rattle.chorus_show.specs.Journal.{journal_lines}
use Rattle.chorus_run.specs.ReportParts.Parts.{ArePrinted, PrintsPart, whole}

lent-append : (a b : List (Bor Entry)) → lent (a ++ b) ≡ lent a ++ lent b
lent-append a b = map-append (λ (e : Bor Entry). e.now) a b

lines-append : (a b : List (Bor Entry)) → journal_lines (lent (a ++ b)) ≡ journal_lines (lent a) ++ journal_lines (lent b)
lines-append a b = ap journal_lines (lent-append a b) ∙ flat_map-append entry_text (lent a) (lent b)

both-within : (a b : List Entry) → AreWithin a → AreWithin b → AreWithin (a ++ b)
both-within [] b h k = k
both-within (e ∷ a) b h k = (h.0, both-within a b h.1 k)

within-append : (a b : List (Bor Entry)) → AreWithin (lent a) → AreWithin (lent b) → AreWithin (lent (a ++ b))
within-append a b h k = subst AreWithin (sym (lent-append a b)) (both-within (lent a) (lent b) h k)

-- the parts behind the first one are those of what stands behind it
behind : (es : List (Bor Entry)) (size : ℕ) (first : Result (Vec ℕ) AllocError) (printed : List (Result (Vec ℕ) AllocError)) → ArePrinted es size (first ∷ printed) → ArePrinted (drop size es) size printed
behind es size first printed h = λ n d lt.
    (let times : suc n * size ≡ size + n * size = omega arith in
    let shift : drop (suc n * size) es ≡ drop (n * size) (drop size es) = ap (λ k. drop k es) times ∙ sym (drop-drop (n * size) size es) in
    subst (λ part. PrintsPart (take size part) (get_or printed n d)) shift (h (suc n) d (omega (arith, lt))))

abbrev pub oks : List (Vec ℕ) → List (Result (Vec ℕ) AllocError)
oks parts = map (λ part. Ok part) parts

none-is : (es : List (Bor Entry)) → length es ≤ 0 → ([] ≡ journal_lines (lent es)) × AreWithin (lent es)
none-is [] lt = (refl, tt)
none-is (e ∷ es) lt = absurd (omega (arith, lt))

pub whole-is : (es : List (Bor Entry)) (size : ℕ) (parts : List (Vec ℕ)) → ArePrinted es size (oks parts) → length es ≤ length (oks parts) * size → (whole parts ≡ journal_lines (lent es)) × AreWithin (lent es)
whole-is es size [] h enough = none-is es (omega (arith, enough))
whole-is es size (part ∷ parts) h enough =
    let none : 0 * size ≡ 0 = omega arith in
    let first : PrintsPart (take size es) (Ok part) = subst (λ k. PrintsPart (take size (drop k es)) (Ok part)) none (h 0 (Ok part) (omega arith)) in
    let fewer : length (drop size es) ≤ length (oks parts) * size = (let len = length-drop size es in omega (arith, enough, len)) in
    let rest = whole-is (drop size es) size parts (behind es size (Ok part) (oks parts) h) fewer in
    let all = take-append-drop size es in (
      ap₂ (λ a b. a ++ b) first.text rest.0 ∙ sym (lines-append (take size es) (drop size es)) ∙ ap (λ xs. journal_lines (lent xs)) all,
      subst (λ xs. AreWithin (lent xs)) all (within-append (take size es) (drop size es) first.within rest.1),
    )

-- so it is where all were printed
module _ (es : List (Bor Entry)) (size n : ℕ) (printed : List (Result (Vec ℕ) AllocError)) (len : n ≡ length printed) (each : ArePrinted es size printed) (enough : length es ≤ n * size) where
  both-are : (parts : List (Vec ℕ)) → printed ≡ oks parts → (whole parts ≡ journal_lines (lent es)) × AreWithin (lent es)
  both-are parts is = whole-is es size parts (subst (ArePrinted es size) is each) (subst (λ ps. length es ≤ length ps * size) is (subst (λ k. length es ≤ k * size) len enough))

  pub printed-whole : (r : Result (Vec (Vec ℕ)) AllocError) → IfOk r (λ parts. printed ≡ oks parts.items) → IfOk r (λ parts. whole parts.items ≡ journal_lines (lent es))
  printed-whole (Ok parts) is = (both-are parts.items is).0
  printed-whole (Err e) is = tt

  pub printed-within : (r : Result (Vec (Vec ℕ)) AllocError) → IfOk r (λ parts. printed ≡ oks parts.items) → OnOk r (AreWithin (lent es))
  printed-within (Ok parts) is = (both-are parts.items is).1
  printed-within (Err e) is = tt
