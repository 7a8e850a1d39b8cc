-- A group that is found by its place among the groups, and one that is changed there.
use Rattle.std.proofs.Common.{ℕ, ◌≡◌, ◌+◌, ◌<◌, ◌≤◌, ⊎_elim, Bool, true, false, cond, List, [], ◌∷◌, length, slice_index_or, slice_set, slice_get, Bor, Option, Some, None, refl, sym, ◌∙◌, ap, arith, add-one}
use Rattle.std.specs.Option.{option_copied}
use Rattle.std.specs.Slice.{IsItemAt}
use Rattle.std.proofs.lemmas.Bool.{cases_lt}
use Rattle.std.proofs.lemmas.Option.{slice_get_past, slice_get_read}
use Rattle.std.proofs.lemmas.List.{set-get_or}
use Rattle.chorus_ui.specs.declared.ui.Ui.{Ui}
use Rattle.chorus_ui.specs.Name.{same_ui}
use Rattle.chorus_groups.specs.Groups.{Group, Table, group_of, row_of, changed, with_change}
use Rattle.chorus_groups.specs.Faults.{after}

get_case : (g : Ui) (x : Group) (xs : List Group) (b : Bool) → group_of g xs ≡ slice_get xs (row_of g xs) →
    cond b (Some x) (group_of g xs) ≡ slice_get (x ∷ xs) (cond b 0 (row_of g xs + 1))
get_case g x xs true h = refl
get_case g x xs false h = h ∙ ap (λ n. slice_get (x ∷ xs) n) (sym (add-one (row_of g xs)))

-- the group of a name, by its place
pub found : (g : Ui) (xs : List Group) → group_of g xs ≡ slice_get xs (row_of g xs)
found g [] = refl
found g (x ∷ xs) = get_case g x xs (same_ui x.ui g) (found g xs)

-- what `get` lends, as the list has it
pub got : (xs : List Group) (i : ℕ) (o : Option (Bor Group)) → IsItemAt xs i o → option_copied o ≡ slice_get xs i
got xs i None h = sym (slice_get_past xs i h.3)
got xs i (Some x) h = sym (slice_get_read xs (length xs) i x.now refl h.3.0 h.1)

-- where it has no place among them, it is not made
pub not_found : (g : Ui) (xs : List Group) (i n : ℕ) → i ≡ row_of g xs → n ≡ length xs → (i < n → false ≡ true) → group_of g xs ≡ None
not_found g xs i n e long h =
    ⊎_elim
    (λ (l : i < n). absurd (let wrong : false ≡ true = h l in cc))
    (λ (le : n ≤ i). found g xs ∙ slice_get_past xs (row_of g xs) (omega arith))
    (cases_lt i n)

found_case : (g : Ui) (x d : Group) (xs : List Group) (b : Bool) → cond b 0 (row_of g xs + 1) < length (x ∷ xs) →
    (row_of g xs < length xs → group_of g xs ≡ Some (slice_index_or xs (row_of g xs) d)) →
    cond b (Some x) (group_of g xs) ≡ Some (slice_index_or (x ∷ xs) (cond b 0 (row_of g xs + 1)) d)
found_case g x d xs true h k = refl
found_case g x d xs false h k =
    k (omega arith) ∙ ap (λ n. Some (slice_index_or (x ∷ xs) n d)) (sym (add-one (row_of g xs)))

-- the group there is the one of the name
pub found_row : (g : Ui) (xs : List Group) (d : Group) → row_of g xs < length xs → group_of g xs ≡ Some (slice_index_or xs (row_of g xs) d)
found_row g [] d h = absurd (let f : 0 < 0 = h in omega arith)
found_row g (x ∷ xs) d h = found_case g x d xs (same_ui x.ui g) h (found_row g xs d)

set_case : (g : Ui) (f : Group → Group) (x d : Group) (xs : List Group) (b : Bool) → cond b 0 (row_of g xs + 1) < length (x ∷ xs) →
    (row_of g xs < length xs → slice_set xs (row_of g xs) (f (slice_index_or xs (row_of g xs) d)) ≡ changed g f xs) →
    slice_set (x ∷ xs) (cond b 0 (row_of g xs + 1)) (f (slice_index_or (x ∷ xs) (cond b 0 (row_of g xs + 1)) d)) ≡ cond b (f x ∷ xs) (x ∷ changed g f xs)
set_case g f x d xs true h k = refl
set_case g f x d xs false h k =
    ap (λ n. slice_set (x ∷ xs) n (f (slice_index_or (x ∷ xs) n d))) (add-one (row_of g xs)) ∙ ap (λ ys. x ∷ ys) (k (omega arith))

-- the groups with the one there changed
pub changed_row : (g : Ui) (f : Group → Group) (xs : List Group) (d : Group) → row_of g xs < length xs → slice_set xs (row_of g xs) (f (slice_index_or xs (row_of g xs) d)) ≡ changed g f xs
changed_row g f [] d h = absurd (let e : 0 < 0 = h in omega arith)
changed_row g f (x ∷ xs) d h = set_case g f x d xs (same_ui x.ui g) h (changed_row g f xs d)

-- the same for a group that is reached by its place
pub found_at : (g : Ui) (xs : List Group) (i : ℕ) (x d : Group) → i ≡ row_of g xs → i < length xs → x ≡ slice_index_or xs i d → group_of g xs ≡ Some x
found_at g xs i x d e h m =
    found_row g xs d (omega arith) ∙ ap (λ y. Some y) (sym (m ∙ ap (λ j. slice_index_or xs j d) e))

pub changed_at : (g : Ui) (f : Group → Group) (xs : List Group) (i : ℕ) (x d : Group) → i ≡ row_of g xs → i < length xs → x ≡ slice_index_or xs i d → slice_set xs i (f x) ≡ changed g f xs
changed_at g f xs i x d e h m =
    ap (λ y. slice_set xs i (f y)) m ∙ ap (λ j. slice_set xs j (f (slice_index_or xs j d))) e ∙ changed_row g f xs d (omega arith)

-- a change that a fault stops
pub after_at : {E : Type 0} (o : Option E) (g : Ui) (f : Group → Group) (t : Table) (i : ℕ) (x d : Group) → i ≡ row_of g t.groups → i < length t.groups → x ≡ slice_index_or t.groups i d →
    record t { groups = slice_set t.groups i (after o f x) } ≡ after o (with_change g f) t
after_at None g f t i x d e h m = ap (λ ys. record t { groups = ys }) (changed_at g f t.groups i x d e h m)
after_at (Some fault) g f t i x d e h m =
    ap (λ ys. record t { groups = ys }) (ap (λ y. slice_set t.groups i y) m ∙ set-get_or t.groups i d)

none_case : (b : Bool) (x : Group) (o : Option Group) (ys xs : List Group) (f : Group → Group) → cond b (Some x) o ≡ None → (o ≡ None → ys ≡ xs) → cond b (f x ∷ xs) (x ∷ ys) ≡ x ∷ xs
none_case true x o ys xs f h k = grind arith
none_case false x o ys xs f h k = ap (λ zs. x ∷ zs) (k h)

-- nothing changes where the group is not made
pub changed_none : (g : Ui) (f : Group → Group) (xs : List Group) → group_of g xs ≡ None → changed g f xs ≡ xs
changed_none g f [] h = refl
changed_none g f (x ∷ xs) h = none_case (same_ui x.ui g) x (group_of g xs) (changed g f xs) xs f h (changed_none g f xs)
