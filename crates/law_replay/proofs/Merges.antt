-- Empty journals behind others change no merge.
-- js are journals, es are empty ones.
use Rattle.std.proofs.Common.{ℕ, zero, suc, ◌≡◌, Bool, true, false, cond, List, [], ◌∷◌, ◌++◌, length, Option, Some, None, option_to_list, refl, sym, ◌∙◌, ap}
use Rattle.std.specs.List.{All}
use Rattle.std.proofs.lemmas.List.Elements.{All-head, All-tail}
use Rattle.chorus_entry.specs.declared.entry.Entry.{Entry}
use Rattle.chorus_merge.specs.Merge.{leads, least_head, without_least_head, taken, all_entries, merged}

abbrev pub IsEmpty : List Entry → Type 0
IsEmpty j = j ≡ []

none-least : (es : List (List Entry)) → All IsEmpty es → least_head es ≡ None
none-least [] h = refl
none-least (j ∷ es) h = ap (λ (z : List Entry). least_head (z ∷ es)) (All-head IsEmpty j es h) ∙ none-least es (All-tail IsEmpty j es h)

least-front : (js es : List (List Entry)) → All IsEmpty es → least_head (js ++ es) ≡ least_head js
least-front [] es h = none-least es h
least-front ([] ∷ js) es h = least-front js es h
least-front ((e ∷ xs) ∷ js) es h = ap (λ (o : Option Entry). cond (leads e o) (Some e) o) (least-front js es h)

none-out : (es : List (List Entry)) → All IsEmpty es → without_least_head es ≡ es
none-out [] h = refl
none-out (j ∷ es) h =
    let none = All-head IsEmpty j es h in
    ap (λ (z : List Entry). without_least_head (z ∷ es)) none ∙ ap (λ (zs : List (List Entry)). [] ∷ zs) (none-out es (All-tail IsEmpty j es h)) ∙ ap (λ (z : List Entry). z ∷ es) (sym none)

out-front : (js es : List (List Entry)) → All IsEmpty es → without_least_head (js ++ es) ≡ without_least_head js ++ es
out-front [] es h = none-out es h
out-front ([] ∷ js) es h = ap (λ (zs : List (List Entry)). [] ∷ zs) (out-front js es h)
out-front ((e ∷ xs) ∷ js) es h =
    (λ i. cond (leads e (least-front js es h i)) (xs ∷ js ++ es) ((e ∷ xs) ∷ out-front js es h i)) ∙ by (leads e (least_head js))
  where
    by : (b : Bool) → cond b (xs ∷ js ++ es) ((e ∷ xs) ∷ without_least_head js ++ es) ≡ cond b (xs ∷ js) ((e ∷ xs) ∷ without_least_head js) ++ es
    by true = refl
    by false = refl

taken-front : (k : ℕ) (js es : List (List Entry)) → All IsEmpty es → taken k (js ++ es) ≡ taken k js
taken-front zero js es h = refl
taken-front (suc k) js es h =
    (λ i. option_to_list (least-front js es h i) ++ taken k (out-front js es h i))
    ∙ ap (λ (xs : List Entry). option_to_list (least_head js) ++ xs) (taken-front k (without_least_head js) es h)

none-all : (es : List (List Entry)) → All IsEmpty es → all_entries es ≡ []
none-all [] h = refl
none-all (j ∷ es) h = ap (λ (z : List Entry). z ++ all_entries es) (All-head IsEmpty j es h) ∙ none-all es (All-tail IsEmpty j es h)

all-front : (js es : List (List Entry)) → All IsEmpty es → all_entries (js ++ es) ≡ all_entries js
all-front [] es h = none-all es h
all-front (j ∷ js) es h = ap (λ (xs : List Entry). j ++ xs) (all-front js es h)

pub merged-front : (js es : List (List Entry)) → All IsEmpty es → merged (js ++ es) ≡ merged js
merged-front js es h = ap (λ (xs : List Entry). taken (length xs) (js ++ es)) (all-front js es h) ∙ taken-front (length (all_entries js)) js es h
