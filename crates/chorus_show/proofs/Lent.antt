-- Entries that are lent: their journal text, and that they are within the bounds of a line.
use Rattle.std.proofs.Common.{◌≡◌, ℕ, List, ◌++◌, length, map, take, drop, Result, Ok, Err, OnOk, OnErr, sym, ap, ◌∙◌, append_assoc, arith}
use Rattle.std.specs.Borrow.{Bor}
use Rattle.std.specs.List.{flat_map, AllWithin}
use Rattle.std.proofs.lemmas.List.{length-map, take-append-drop, take-append-le, take_all}
use Rattle.std.proofs.lemmas.List.Elements.{All-from_all_within, All-map}
use Rattle.std.proofs.lemmas.List.Folds.{flat_map-map}
use Rattle.chorus_entry.specs.declared.entry.Entry.{Entry}
use Rattle.chorus_show.specs.Bounds.{IsWithin, AreWithin}
use Rattle.chorus_show.specs.Lines.{entry_text}
use Rattle.chorus_show.specs.Journal.{journal_head, journal_lines, journal_text}
use Rattle.chorus_show.proofs.Bounds.{all_within}

abbrev entry_of : Bor Entry → Entry
entry_of e = e.now

abbrev pub lent : List (Bor Entry) → List Entry
lent es = map (λ (e : Bor Entry). e.now) es

abbrev pub lent_line : Bor Entry → List ℕ
lent_line e = entry_text e.now

abbrev pub IsLentWithin : Bor Entry → Type 0
IsLentWithin e = IsWithin e.now

pub lent_lines_are : (es : List (Bor Entry)) → flat_map (λ e. lent_line e) es ≡ journal_lines (lent es)
lent_lines_are es = sym (flat_map-map entry_text entry_of es)

pub lent_within : (es : List (Bor Entry)) → AllWithin IsLentWithin es 0 (length es) → AreWithin (lent es)
lent_within es h = all_within (lent es) (All-map IsWithin entry_of es (All-from_all_within IsLentWithin es h))

-- The lines behind the first line are the text; and a front of them leaves what stood before it.

pub head-lines : {T E : Type 0} (es : List (Bor Entry)) (old mid new : List ℕ) (r : Result T E) → mid ≡ old ++ journal_head (length es) → OnOk r (new ≡ mid ++ journal_lines (lent es)) → OnOk r (new ≡ old ++ journal_text (lent es))
head-lines es old mid new (Ok v) first rest =
    rest ∙ ap (λ xs. xs ++ journal_lines (lent es)) first ∙ append_assoc old (journal_head (length es)) (journal_lines (lent es))
    ∙ ap (λ n. old ++ (journal_head n ++ journal_lines (lent es))) (sym (length-map es entry_of))
head-lines es old mid new (Err e) first rest = tt

pub head-front : {T E : Type 0} (old mid new more : List ℕ) (r : Result T E) → mid ≡ old ++ more → OnErr r (take (length mid) new ≡ mid) → OnErr r (take (length old) new ≡ old)
head-front old mid new more (Ok v) first front = tt
head-front old mid new more (Err e) first front =
    let rest = drop (length mid) new in
    let whole : new ≡ old ++ (more ++ rest) =
    sym (take-append-drop (length mid) new) ∙ ap (λ xs. xs ++ rest) (front ∙ first) ∙ append_assoc old more rest in
    ap (take (length old)) whole ∙ take-append-le (length old) old (more ++ rest) (omega arith) ∙ take_all (length old) old (omega arith)
