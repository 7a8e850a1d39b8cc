-- The steps of the loop that merges two lists of references.
use Rattle.std.proofs.Common.{ℕ, ◌≡◌, ◌+◌, ◌<◌, ◌≤◌, true, false, List, [], ◌∷◌, ◌++◌, length, get_or, drop, sym, ◌∙◌, ap, append_assoc}
use Rattle.std.specs.Borrow.{Bor}
use Rattle.std.proofs.lemmas.List.{append-nil, map-append, drop_more, drop_all}
use Rattle.chorus_entry.specs.declared.entry.Entry.{Entry}
use Rattle.chorus_entry.specs.Order.{comes_before}
use Rattle.chorus_merge.specs.Steps.{lent, merge_two}
use Rattle.chorus_merge.proofs.Merges.{merge_by-nil_left, merge_by-nil, merge_by-first, merge_by-second}

-- what came out so far, and then the merge of what is left, is the whole merge
abbrev pub Merging : List (Bor Entry) → List (Bor Entry) → List (Bor Entry) → ℕ → ℕ → Type 0
Merging out xs ys i j = lent out ++ merge_two (lent (drop i xs)) (lent (drop j ys)) ≡ merge_two (lent xs) (lent ys)

at_index : (xs : List (Bor Entry)) (i : ℕ) (x : Bor Entry) → i < length xs → x ≡ get_or xs i x → drop i xs ≡ x ∷ drop (i + 1) xs
at_index xs i x lt is = drop_more xs i x lt ∙ ap (λ w. w ∷ drop (i + 1) xs) (sym is)

-- one more reference
push : (out : List (Bor Entry)) (x : Bor Entry) (rest : List Entry) → lent (out ++ x ∷ []) ++ rest ≡ lent out ++ (x.now ∷ rest)
push out x rest =
    let view : Bor Entry → Entry = λ e. e.now in
    ap (λ ws. ws ++ rest) (map-append view out (x ∷ [])) ∙ append_assoc (lent out) (x.now ∷ []) rest

pub take_second : (out xs ys : List (Bor Entry)) (i j : ℕ) (x y : Bor Entry) → Merging out xs ys i j → i < length xs → j < length ys → x ≡ get_or xs i x → y ≡ get_or ys j y → comes_before y.now x.now ≡ true → Merging (out ++ y ∷ []) xs ys i (j + 1)
take_second out xs ys i j x y m li lj xi yj h =
    let left = at_index xs i x li xi in
    let right = at_index ys j y lj yj in
    let step = merge_by-second comes_before x.now y.now (lent (drop (i + 1) xs)) (lent (drop (j + 1) ys)) h in
    push out y (merge_two (lent (drop i xs)) (lent (drop (j + 1) ys)))
    ∙ ap (λ ws. lent out ++ ws)
    (ap (λ ws. y.now ∷ merge_two (lent ws) (lent (drop (j + 1) ys))) left
    ∙ sym step
    ∙ sym (ap (λ ws. merge_two (lent ws) (lent (drop j ys))) left ∙ ap (λ ws. merge_two (lent (x ∷ drop (i + 1) xs)) (lent ws)) right))
    ∙ m

pub take_first : (out xs ys : List (Bor Entry)) (i j : ℕ) (x y : Bor Entry) → Merging out xs ys i j → i < length xs → j < length ys → x ≡ get_or xs i x → y ≡ get_or ys j y → comes_before y.now x.now ≡ false → Merging (out ++ x ∷ []) xs ys (i + 1) j
take_first out xs ys i j x y m li lj xi yj h =
    let left = at_index xs i x li xi in
    let right = at_index ys j y lj yj in
    let step = merge_by-first comes_before x.now y.now (lent (drop (i + 1) xs)) (lent (drop (j + 1) ys)) h in
    push out x (merge_two (lent (drop (i + 1) xs)) (lent (drop j ys)))
    ∙ ap (λ ws. lent out ++ ws)
    (ap (λ ws. x.now ∷ merge_two (lent (drop (i + 1) xs)) (lent ws)) right
    ∙ sym step
    ∙ sym (ap (λ ws. merge_two (lent ws) (lent (drop j ys))) left ∙ ap (λ ws. merge_two (lent (x ∷ drop (i + 1) xs)) (lent ws)) right))
    ∙ m

lent-both : (out xs ys : List (Bor Entry)) → lent (out ++ xs ++ ys) ≡ lent out ++ (lent xs ++ lent ys)
lent-both out xs ys =
    let view : Bor Entry → Entry = λ e. e.now in
    map-append view (out ++ xs) ys ∙ ap (λ ws. ws ++ lent ys) (map-append view out xs) ∙ append_assoc (lent out) (lent xs) (lent ys)

-- one of the lists is at its end
pub first_ends : (out xs ys : List (Bor Entry)) (i j : ℕ) → Merging out xs ys i j → length xs ≤ i → lent (out ++ drop i xs ++ drop j ys) ≡ merge_two (lent xs) (lent ys)
first_ends out xs ys i j m le =
    let none = drop_all i xs le in
    lent-both out (drop i xs) (drop j ys)
    ∙ ap (λ ws. lent out ++ ws)
    (ap (λ ws. lent ws ++ lent (drop j ys)) none
    ∙ sym (ap (λ ws. merge_two (lent ws) (lent (drop j ys))) none ∙ merge_by-nil_left comes_before (lent (drop j ys))))
    ∙ m

pub second_ends : (out xs ys : List (Bor Entry)) (i j : ℕ) → Merging out xs ys i j → length ys ≤ j → lent (out ++ drop i xs ++ drop j ys) ≡ merge_two (lent xs) (lent ys)
second_ends out xs ys i j m le =
    let none = drop_all j ys le in
    lent-both out (drop i xs) (drop j ys)
    ∙ ap (λ ws. lent out ++ ws)
    (ap (λ ws. lent (drop i xs) ++ lent ws) none ∙ append-nil (lent (drop i xs))
    ∙ sym (ap (λ ws. merge_two (lent (drop i xs)) (lent ws)) none ∙ merge_by-nil comes_before (lent (drop i xs))))
    ∙ m
