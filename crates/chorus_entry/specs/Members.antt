-- Lists of names: of the members of a group, and positions in them.
use Rattle.std.specs.Prelude.{ℕ, ◌+◌, ◌-◌, ◌≤◌, nat_lt, Bool, true, ◌&&◌, not, if◌then◌else◌, List, [], ◌∷◌, ◌++◌, length, take, drop, remove, Option, Some, None}
use Rattle.std.specs.List.{list_any}
use Rattle.std.specs.Cmp.{IsEquivalence}
use Rattle.std.specs.Cmp.Lexicographic.{pointwise, lists_equiv}
use Rattle.std.specs.Cmp.Rules.{comparing}
use Rattle.std.proofs.Common.{rules}
use Rattle.chorus_ui.specs.declared.ui.Ui.{Ui}
use Rattle.chorus_ui.specs.Name.{same_ui}

-- the two lists are one
abbrev pub same_uis : List Ui → List Ui → Bool
same_uis = pointwise same_ui

pub same_uis-equivalence : IsEquivalence same_uis
same_uis-equivalence = lists_equiv (search (comparing, rules))

-- the position of a port in a list, counted from 0: the length where it is not in it
abbrev pub index_of : Ui → List Ui → ℕ
index_of q [] = 0
index_of q (r ∷ rs) = if same_ui r q then 0 else index_of q rs + 1

abbrev pub is_member : Ui → List Ui → Bool
is_member q qs = list_any (λ r. same_ui r q) qs

-- each port stands in the list once
abbrev pub are_distinct : List Ui → Bool
are_distinct [] = true
are_distinct (q ∷ qs) = not (is_member q qs) && are_distinct qs

-- a list of ports without one of them
abbrev pub without : Ui → List Ui → List Ui
without q qs = remove qs (index_of q qs)

-- a position in a list of n, or 0 in an empty one
abbrev pub IsPosition : ℕ → ℕ → Type 0
IsPosition i n = i ≤ n - 1

-- a position in a list of n, or the first one where it comes to the end
abbrev pub wrapped : ℕ → ℕ → ℕ
wrapped n i = if nat_lt i n then i else 0

-- a list from a position on, round it
abbrev pub round_from : {A : Type 0} → ℕ → List A → List A
round_from i xs = drop i xs ++ take i xs

-- Of a group, the position of the member that is next in turn is its rotation place. A choice of one member moves it
-- behind that one, and no other choice moves it
abbrev pub turned : List Ui → List Ui → ℕ → ℕ
turned qs (q ∷ []) i = wrapped (length qs) (index_of q qs + 1)
turned qs _ i = i

-- where a member before it leaves, it moves one back
abbrev pub turned_back : List Ui → Ui → ℕ → ℕ
turned_back qs q i = wrapped (length (without q qs)) (if nat_lt (index_of q qs) i then i - 1 else i)

-- the first of a list, and a list of one, where there is one
abbrev pub first_of : List Ui → Option Ui
first_of [] = None
first_of (q ∷ qs) = Some q

abbrev pub listed : Option Ui → List Ui
listed None = []
listed (Some q) = q ∷ []
