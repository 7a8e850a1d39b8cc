-- What is found where entries were gone over in order.
use Rattle.std.proofs.Common.{ℕ, suc, ◌+◌, ◌<◌, ◌≤◌, ◌≡◌, arith, get_or, true, false, List, [], ◌∷◌, ◌++◌, length, Some, sym, ◌∙◌, ap, reverse, take, drop}
use Rattle.std.proofs.lemmas.Bool.{and_from}
use Rattle.std.proofs.lemmas.List.{length-reverse, length-take-le, reverse-append, take-append-drop, take_all}
use Rattle.std.proofs.Math.Seq.{take-suc}
use Rattle.std.specs.Option.{option_or}
use Rattle.chorus_ui.specs.declared.layout.Layout.{Layout}
use Rattle.chorus_entry.specs.declared.entry.Entry.{Entry}
use Rattle.judge_seats.specs.Seats.{all_stand, first_out, line_if, may_stand}
use Rattle.judge_seats.proofs.Meaning.{stand-none}

pub stands_on : (l : Layout) (past : List Entry) (e : Entry) → all_stand l past ≡ true → may_stand l past e ≡ true → all_stand l (e ∷ past) ≡ true
stands_on l past e stand may = and_from (all_stand l past) (may_stand l past e) stand may

-- one entry more
pub grown : (es : List Entry) (i : ℕ) (e : Entry) → e ≡ get_or es i e → i < length es → reverse (take (i + 1) es) ≡ e ∷ reverse (take i es)
grown es i e is inside =
    let one : i + 1 ≡ suc i = omega arith in
    ap (λ n. reverse (take n es)) one ∙ ap reverse (take-suc es i e inside) ∙ reverse-append (take i es) (get_or es i e ∷ []) ∙ ap (λ x. x ∷ reverse (take i es)) (sym is)

pub so_long : (es : List Entry) (i : ℕ) → i < length es → length (reverse (take i es)) ≡ i
so_long es i inside = length-reverse (take i es) ∙ length-take-le i es (omega (arith, inside))

pub all_of : (es : List Entry) (i : ℕ) → length es ≤ i → reverse (take i es) ≡ reverse es
all_of es i over = ap reverse (take_all i es over)

-- an entry that is out is so behind whatever comes later
still-out : (l : Layout) (newer past : List Entry) (n : ℕ) → first_out l past ≡ Some n → first_out l (newer ++ past) ≡ Some n
still-out l [] past n h = h
still-out l (e ∷ newer) past n h = ap (λ o. option_or o (line_if (may_stand l (newer ++ past) e) (length (newer ++ past) + 2))) (still-out l newer past n h)

pub goes_out : (l : Layout) (es : List Entry) (i : ℕ) (e : Entry) → reverse (take (i + 1) es) ≡ e ∷ reverse (take i es) → length (reverse (take i es)) ≡ i → all_stand l (reverse (take i es)) ≡ true → may_stand l (reverse (take i es)) e ≡ false → first_out l (reverse es) ≡ Some (i + 2)
goes_out l es i e grown long stand refused =
    let past : List Entry = reverse (take i es) in
    let here : first_out l (e ∷ past) ≡ Some (i + 2) = (λ k. option_or (stand-none l past stand k) (line_if (refused k) (long k + 2))) in
    let whole : reverse es ≡ reverse (drop (i + 1) es) ++ (e ∷ past) = ap reverse (sym (take-append-drop (i + 1) es)) ∙ reverse-append (take (i + 1) es) (drop (i + 1) es) ∙ ap (λ xs. reverse (drop (i + 1) es) ++ xs) grown in
    ap (first_out l) whole ∙ still-out l (reverse (drop (i + 1) es)) (e ∷ past) (i + 2) here
