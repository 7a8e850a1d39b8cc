use Rattle.std.proofs.Common.{◌≡◌, ◌-◌, ◌+◌, ℕ, cond, Result, Ok, Err, is_ok, OnOk, List, [], ◌++◌, take, length, refl, sym, ap, ◌∙◌, append_assoc, length-append, arith}
use Rattle.std.specs.Prelude.{codes}
use Rattle.std.proofs.Math.Seq.{take-append_seam}

-- two texts of one list, appended one after the other to nothing
pub two_texts : {A : Type 0} (f g : List A → List ℕ) (start mid end : List ℕ) (one two all : List A) →
    start ≡ [] → mid ≡ start ++ f one → end ≡ mid ++ g two → one ≡ all → two ≡ all → end ≡ f all ++ g all
two_texts f g start mid end one two all empty first second same_one same_two = rw (second, first, empty, same_one, same_two) refl

-- lines before the end of a text
pub with_stuck : (journal lines lines_more text new : List ℕ) → text ≡ journal ++ (lines ++ codes "end\n") → ((front : List ℕ) → text ≡ front ++ codes "end\n" → new ≡ front ++ (lines_more ++ codes "end\n"))
    → new ≡ journal ++ (lines ++ (lines_more ++ codes "end\n"))
with_stuck journal lines more text new is put =
    put (journal ++ lines) (is ∙ sym (append_assoc journal lines (codes "end\n"))) ∙ append_assoc journal lines (more ++ codes "end\n")

-- what stands before the end
pub before_end : (front text : List ℕ) → text ≡ front ++ codes "end\n" → take (length text - 4) text ≡ front
before_end front text is =
    let len : length text ≡ length front + 4 = ap length is ∙ length-append front (codes "end\n") in
    let less : length text - 4 ≡ length front = omega (arith, len) in
    ap (λ n. take n text) less ∙ ap (take (length front)) is ∙ take-append_seam front (codes "end\n")

-- what is so where all was appended
pub on_ok : {T E : Type 0} (r : Result T E) (new whole old : List ℕ) (Q : Type 0) → new ≡ cond (is_ok r) whole old → (new ≡ whole → Q) → OnOk r Q
on_ok (Ok v) new whole old Q h f = f h
on_ok (Err e) new whole old Q h f = tt
