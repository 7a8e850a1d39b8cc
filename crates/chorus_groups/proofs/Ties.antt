-- What a layer above needs to tie the groups to a history of them: a group after another is made or changed, and choices.
use Rattle.std.proofs.Common.{ℕ, ◌≡◌, ◌+◌, Bool, true, false, cond, List, [], ◌∷◌, ◌++◌, map, take, drop, Option, Some, None, refl, sym, ◌∙◌, ap}
use Rattle.std.specs.List.{find}
use Rattle.std.specs.Option.{option_or}
use Rattle.std.proofs.lemmas.List.{map-append, drop-map, take-map}
use Rattle.chorus_ui.specs.declared.ui.Ui.{Ui}
use Rattle.chorus_ui.specs.Name.{same_ui}
use Rattle.chorus_entry.specs.Members.{round_from}
use Rattle.chorus_groups.specs.Groups.{Group, group_of, new_group}
use Rattle.chorus_groups.specs.Choosing.{is_on, first_at}

made_case : (b c : Bool) (x y : Group) (o p : Option Group) → p ≡ option_or o (cond c (Some y) None) → cond b (Some x) p ≡ option_or (cond b (Some x) o) (cond c (Some y) None)
made_case true c x y o p e = refl
made_case false c x y o p e = e

-- a group, after one is made
pub group_of-made : (g h : Ui) (xs : List Group) →
    group_of g (xs ++ new_group h ∷ []) ≡ option_or (group_of g xs) (cond (same_ui h g) (Some (new_group h)) None)
group_of-made g h [] = refl
group_of-made g h (x ∷ xs) = made_case (same_ui x.ui g) (same_ui h g) x (new_group h) (group_of g xs) _ (group_of-made g h xs)

find_case : (b : Bool) (q : Ui) (o p : Option Ui) → o ≡ p → cond b (Some q) o ≡ cond b (Some q) p
find_case b q o p e = ap (λ x. cond b (Some q) x) e

-- the first on a site, where the newest sites are those of a function
pub first_at-map : (s : ℕ) (newest : Ui → ℕ) (qs : List Ui) → first_at s qs (map newest qs) ≡ find (λ q. is_on s (newest q)) qs
first_at-map s newest [] = refl
first_at-map s newest (q ∷ qs) = find_case (is_on s (newest q)) q _ _ (first_at-map s newest qs)

pub round_from-map : {A B : Type 0} (f : A → B) (i : ℕ) (xs : List A) → round_from i (map f xs) ≡ map f (round_from i xs)
round_from-map f i xs =
    ap (λ ys. ys ++ take i (map f xs)) (drop-map f i xs) ∙ ap (λ ys. map f (drop i xs) ++ ys) (take-map f i xs)
    ∙ sym (map-append f (drop i xs) (take i xs))
