-- Two ways to find the entries of a text agree, as far as both go.
use Rattle.std.proofs.Common.{◌≡◌, ℕ, ◌^◌, ◌<◌, true, unwrap_or, List, [], ◌∷◌, ◌++◌, length, drop, reverse, codes, decimal, refl, sym, ap, ◌∙◌, append_assoc, arith}
use Rattle.std.specs.List.{flat_map}
use Rattle.std.proofs.lemmas.Bool.{and_parts}
use Rattle.std.proofs.lemmas.List.{reverse-append, length-append, append_cancel_right}
use Rattle.chorus_ui.specs.declared.layout.Layout.{Layout}
use Rattle.chorus_ui.proofs.Decimals.{parse_decimal-decimal}
use Rattle.chorus_ui.specs.Decimals.{parse_decimal}
use Rattle.chorus_entry.specs.declared.entry.Entry.{Entry}
use Rattle.chorus_world.specs.Steps.{may, is_legal}
use Rattle.chorus_show.specs.Lines.{entry_text}
use Rattle.chorus_show.specs.Bounds.{IsEntry, IsWithin, AreWithin}
use Rattle.chorus_show.specs.Phrases.{phrase}
use Rattle.chorus_show.proofs.LineBack.{line, entry_line, lines_tell_entries, count_lacks}
use Rattle.chorus_audit.specs.Tests.{head}
use Rattle.chorus_audit.proofs.Cutting.{cut_once}

-- the lines of entries
abbrev pub lines : List Entry → List ℕ
lines = flat_map entry_text

-- a text begins with the line of one entry at most
pub one_entry : (e d : Entry) (x y : List ℕ) → IsEntry e → IsEntry d → entry_text e ++ x ≡ entry_text d ++ y → (e ≡ d) × (x ≡ y)
one_entry e d x y he hd same =
    let cut = cut_once 10 (line e) (line d) x y (entry_line e he) (entry_line d hd) (sym (append_assoc (line e) (10 ∷ []) x) ∙ same ∙ append_assoc (line d) (10 ∷ []) y) in
    (lines_tell_entries e d he hd (ap (λ t. t ++ 10 ∷ []) cut.0), cut.1)

-- and with one line `journal N` at most
told_word : ℕ → List ℕ
told_word n = phrase (codes "journal") (decimal n ∷ [])

some_number : (n m : ℕ) → n < 2 ^ 64 → m < 2 ^ 64 → decimal n ≡ decimal m → n ≡ m
some_number n m hn hm e = ap (λ o. unwrap_or o 0) (sym (parse_decimal-decimal n hn) ∙ ap parse_decimal e ∙ parse_decimal-decimal m hm)

pub one_head : (n m : ℕ) (x y : List ℕ) → n < 2 ^ 32 → m < 2 ^ 32 → head n ++ x ≡ head m ++ y → (n ≡ m) × (x ≡ y)
one_head n m x y hn hm same =
    let wn = phrase (codes "journal") (decimal n ∷ []) in
    let wm = phrase (codes "journal") (decimal m ∷ []) in
    let cut = cut_once 10 wn wm x y (count_lacks (codes "journal") n refl (omega arith)) (count_lacks (codes "journal") m refl (omega arith)) (sym (append_assoc wn (10 ∷ []) x) ∙ same ∙ append_assoc wm (10 ∷ []) y) in
    (some_number n m (omega arith) (omega arith) (append_cancel_right (decimal n) (decimal m) [] (ap (drop 8) cut.0)), cut.1)

-- both lists are one, or one goes on where the other ends
pub data Compared (es : List Entry) (x : List ℕ) (ds : List Entry) (y : List ℕ) : Type 0 where
  Same : es ≡ ds → x ≡ y → Compared es x ds y
  Fewer : (e : Entry) (tail : List Entry) → ds ≡ es ++ e ∷ tail → x ≡ entry_text e ++ (lines tail ++ y) → Compared es x ds y
  More : (e : Entry) (tail : List Entry) → es ≡ ds ++ e ∷ tail → y ≡ entry_text e ++ (lines tail ++ x) → Compared es x ds y

onto_both : (e d : Entry) (es ds : List Entry) (x y : List ℕ) → e ≡ d → Compared es x ds y → Compared (e ∷ es) x (d ∷ ds) y
onto_both e d es ds x y same (Same p q) = Same (λ i. same i ∷ p i) q
onto_both e d es ds x y same (Fewer f tail p q) = Fewer f tail (λ i. sym same i ∷ p i) q
onto_both e d es ds x y same (More f tail p q) = More f tail (λ i. same i ∷ p i) q

pub compared : (es ds : List Entry) (x y : List ℕ) → AreWithin es → AreWithin ds → lines es ++ x ≡ lines ds ++ y → Compared es x ds y
compared [] [] x y hs hd same = Same refl same
compared [] (d ∷ ds) x y hs hd same = Fewer d ds refl (same ∙ append_assoc (entry_text d) (lines ds) y)
compared (e ∷ es) [] x y hs hd same = More e es refl (sym same ∙ append_assoc (entry_text e) (lines es) x)
compared (e ∷ es) (d ∷ ds) x y hs hd same =
    let one = one_entry e d (lines es ++ x) (lines ds ++ y) hs.0.numbers hd.0.numbers (sym (append_assoc (entry_text e) (lines es) x) ∙ same ∙ append_assoc (entry_text d) (lines ds) y) in
    onto_both e d es ds x y one.0 (compared es ds x y hs.1 hd.1 one.1)

-- a legal list is legal up to each of its entries
legal_below : (l : Layout) (late past : List Entry) → is_legal l (late ++ past) ≡ true → is_legal l past ≡ true
legal_below l [] past h = h
legal_below l (e ∷ late) past h = legal_below l late past (and_parts (may l (late ++ past) e) (is_legal l (late ++ past)) h).1

pub legal_next : (l : Layout) (es : List Entry) (e : Entry) (tail : List Entry) → is_legal l (reverse (es ++ e ∷ tail)) ≡ true → may l (reverse es) e ≡ true
legal_next l es e tail h =
    let turned : reverse (es ++ e ∷ tail) ≡ reverse tail ++ e ∷ reverse es =
    ap reverse (sym (append_assoc es (e ∷ []) tail)) ∙ reverse-append (es ++ e ∷ []) tail ∙ ap (λ past. reverse tail ++ past) (reverse-append es (e ∷ []))
    in
    let legal = legal_below l (reverse tail) (e ∷ reverse es) (ap (is_legal l) (sym turned) ∙ h) in
    (and_parts (may l (reverse es) e) (is_legal l (reverse es)) legal).0

pub within_next : (es : List Entry) (e : Entry) (tail : List Entry) → AreWithin (es ++ e ∷ tail) → IsWithin e
within_next [] e tail h = h.0
within_next (d ∷ es) e tail h = within_next es e tail h.1

pub length_next : (es : List Entry) (e : Entry) (tail : List Entry) → length es < length (es ++ e ∷ tail)
length_next es e tail = omega (arith, length-append es (e ∷ tail))
