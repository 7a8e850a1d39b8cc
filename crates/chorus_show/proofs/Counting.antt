-- Entries are counted from the last one to the first.
use Rattle.std.proofs.Common.{◌≡◌, ℕ, ◌+◌, ◌-◌, ◌<◌, ◌≤◌, Result, Ok, Err, OnOk, List, [], ◌∷◌, ◌++◌, length, take, get_or, refl, sym, ap, ◌∙◌, arith}
use Rattle.std.proofs.lemmas.List.{take_more, take_all}
use Rattle.chorus_entry.specs.declared.entry.Entry.{Entry}
use Rattle.chorus_show.specs.Summary.{summary_text}
use Rattle.chorus_show.specs.declared.summary.Summary.{Summary}
use Rattle.chorus_show.specs.Tally.{Tells}

-- a list is what stands before its last element, and that element
pub cut_last : {X : Type 0} (xs : List X) (x : X) → 1 ≤ length xs → x ≡ get_or xs (length xs - 1) x → xs ≡ take (length xs - 1) xs ++ x ∷ []
cut_last xs x some last =
    let whole : length xs - 1 + 1 ≡ length xs = omega arith in
    sym (take_all (length xs) xs (omega arith))
    ∙ ap (λ n. take n xs) (sym whole)
    ∙ take_more xs (length xs - 1) x (omega arith)
    ∙ ap (λ y. take (length xs - 1) xs ++ y ∷ []) (sym last)

-- nothing stands before the elements, where the rest is empty
pub none_left : {X : Type 0} (rest later : List X) → length rest < 1 → rest ++ later ≡ later
none_left [] later h = refl
none_left (e ∷ rest) later h = absurd (omega arith)

-- what a summary writes is said of the entries that it tells
pub told : {T E : Type 0} (r : Result T E) (out old : List ℕ) (entries : List Entry) {numbers : Summary} → Tells numbers entries → OnOk r ((es : List Entry) → Tells numbers es → out ≡ old ++ summary_text es) → OnOk r (out ≡ old ++ summary_text entries)
told (Ok v) out old entries tells says = says entries tells
told (Err v) out old entries tells says = tt
