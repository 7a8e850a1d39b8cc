-- Lists of ports: where one stands, and one more or less.
use Rattle.std.proofs.Common.{ℕ, suc, zero, ◌≡◌, ◌-◌, ◌<◌, nat_lt, Bool, true, false, cond, List, [], ◌∷◌, ◌++◌, length, take, drop, Option, Some, slice_get, length-drop, refl, sym, ◌∙◌, ap, arith}
use Rattle.std.specs.List.{list_any, remove}
use Rattle.std.specs.Option.{option_or}
use Rattle.std.proofs.lemmas.Bool.Decides.{nat_tests}
use Rattle.std.proofs.lemmas.Grind.{common_steps}
use Rattle.chorus_ui.specs.declared.ui.Ui.{Ui}
use Rattle.chorus_ui.specs.Name.{same_ui}
use Rattle.chorus_entry.specs.Members.{index_of, is_member, are_distinct, wrapped, IsPosition, first_of, round_from}
use Rattle.chorus_groups.specs.Choosing.{is_on, first_at}

pub wrapped-position : (n i : ℕ) → IsPosition (wrapped n i) n
wrapped-position n i = grind (arith, nat_tests)

-- a port is in a list where its place is one of the list's
pub is_member-index : (q : Ui) (qs : List Ui) → is_member q qs ≡ nat_lt (index_of q qs) (length qs)
is_member-index q [] = grind (arith, nat_tests)
is_member-index q (r ∷ rs) = grind (arith, nat_tests, is_member-index q rs)

pub any-remove : (p : Ui → Bool) (qs : List Ui) (i : ℕ) → list_any p qs ≡ false → list_any p (remove qs i) ≡ false
any-remove p [] zero h = refl
any-remove p [] (suc i) h = refl
any-remove p (q ∷ qs) zero h = grind (arith, common_steps)
any-remove p (q ∷ qs) (suc i) h = grind (arith, any-remove p qs i)

pub distinct-remove : (qs : List Ui) (i : ℕ) → are_distinct qs ≡ true → are_distinct (remove qs i) ≡ true
distinct-remove [] zero h = refl
distinct-remove [] (suc i) h = refl
distinct-remove (q ∷ qs) zero h = grind (arith, common_steps)
distinct-remove (q ∷ qs) (suc i) h = grind (arith, distinct-remove qs i, any-remove (λ r. same_ui r q) qs i)

pub any-append : (p : Ui → Bool) (qs : List Ui) (q : Ui) → list_any p qs ≡ false → p q ≡ false → list_any p (qs ++ q ∷ []) ≡ false
any-append p [] q h k = grind (arith, common_steps)
any-append p (r ∷ rs) q h k = grind (arith, any-append p rs q)

pub distinct-append : (qs : List Ui) (q : Ui) → are_distinct qs ≡ true → is_member q qs ≡ false → are_distinct (qs ++ q ∷ []) ≡ true
distinct-append [] q h k = refl
distinct-append (r ∷ rs) q h k = grind (arith, distinct-append rs q, any-append (λ p. same_ui p r) rs q)

first_of-drop : (qs rs : List Ui) (i : ℕ) → i < length qs → first_of (drop i qs ++ rs) ≡ slice_get qs i
first_of-drop [] rs i h = grind arith
first_of-drop (q ∷ qs) rs zero h = refl
first_of-drop (q ∷ qs) rs (suc i) h = grind (arith, first_of-drop qs rs i)

-- the first from a position on is the one there
pub first_of_in_turn : (qs : List Ui) (i : ℕ) → IsPosition i (length qs) → first_of (round_from i qs) ≡ slice_get qs i
first_of_in_turn [] i h = grind (arith, common_steps)
first_of_in_turn (q ∷ qs) i h = first_of-drop (q ∷ qs) (take i (q ∷ qs)) i (omega arith)

at_case : (s n : ℕ) (q : Ui) (o p : Option Ui) → cond (is_on s n) (Some q) (option_or o p) ≡ option_or (cond (is_on s n) (Some q) o) p
at_case s n q o p = grind arith

-- a list behind another: the first on the site is in the first of them, or else in the second
pub first_at-append : (s : ℕ) (qs rs : List Ui) (ns ms : List ℕ) → length ns ≡ length qs →
    first_at s (qs ++ rs) (ns ++ ms) ≡ option_or (first_at s qs ns) (first_at s rs ms)
first_at-append s [] rs [] ms e = refl
first_at-append s [] rs (n ∷ ns) ms e = grind arith
first_at-append s (q ∷ qs) rs [] ms e = grind arith
first_at-append s (q ∷ qs) rs (n ∷ ns) ms e =
    ap (λ o. cond (is_on s n) (Some q) o) (first_at-append s qs rs ns ms (omega arith)) ∙ at_case s n q (first_at s qs ns) (first_at s rs ms)

pub first_at-round_from : (s i : ℕ) (qs : List Ui) (ns : List ℕ) → length ns ≡ length qs →
    first_at s (round_from i qs) (round_from i ns) ≡ option_or (first_at s (drop i qs) (drop i ns)) (first_at s (take i qs) (take i ns))
first_at-round_from s i qs ns e =
    first_at-append s (drop i qs) (take i qs) (drop i ns) (take i ns)
    (length-drop i ns ∙ ap (λ n. n - i) e ∙ sym (length-drop i qs))
