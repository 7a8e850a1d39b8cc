-- Functional choices, one after another, with no join, no leave and no other choice between them.
use Rattle.std.specs.Prelude.{ℕ, zero, suc, ◌+◌, if◌then◌else◌, List, [], ◌∷◌, ◌++◌, length, slice_get}
use Rattle.chorus_ui.specs.declared.ui.Ui.{Ui}
use Rattle.chorus_ui.specs.Name.{same_ui}
use Rattle.chorus_entry.specs.declared.dest.Dest.TheVariants.{One}
use Rattle.chorus_entry.specs.Members.{listed, wrapped}
use Rattle.chorus_groups.specs.Groups.{Table}
use Rattle.chorus_groups.specs.Choosing.{choice, after_choose}

-- one member is chosen of each of these groups, one after another: the members that are chosen of the group g, in order
abbrev pub chosen_of : Ui → List Ui → Table → List Ui
chosen_of g [] t = []
chosen_of g (h ∷ hs) t = (if same_ui h g then choice t (One h) [] else []) ++ chosen_of g hs (after_choose t (One h) [])

-- how often g is one of these groups
abbrev pub times : Ui → List Ui → ℕ
times g [] = 0
times g (h ∷ hs) = (if same_ui h g then 1 else 0) + times g hs

-- n members of a list in turn, from the position i on, round the list as often as it takes
abbrev pub around : ℕ → ℕ → List Ui → List Ui
around zero i qs = []
around (suc n) i qs = listed (slice_get qs i) ++ around n (wrapped (length qs) (i + 1)) qs
