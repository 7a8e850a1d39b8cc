-- Groups, as contracts see them.
use Rattle.std.specs.Prelude.{ℕ, ◌+◌, ◌-◌, ◌≤◌, if◌then◌else◌, List, [], ◌∷◌, ◌++◌, length, IsTrue, Option, Some, None}
use Rattle.chorus_ui.specs.declared.ui.Ui.{Ui}
use Rattle.chorus_ui.specs.Name.{same_ui}
use Rattle.chorus_ui.specs.declared.limits.TheConstants.{MEMBERS_LIMIT}
use Rattle.chorus_entry.specs.Members.{index_of, without, wrapped, are_distinct, IsPosition, turned_back}

-- a group: its members in the order in which they joined, and the position of the one that is next in turn
pub record Group : Type 0 where
  pub ui : Ui
  pub members : List Ui
  pub rotation : ℕ

-- the groups that are made, and how many more there is room for
pub record Table : Type 0 where
  pub groups : List Group
  pub spare : ℕ

-- what holds of each group
pub record IsGroup (x : Group) : Type 0 where
  pub few : length x.members ≤ MEMBERS_LIMIT
  pub distinct : IsTrue (are_distinct x.members)
  pub position : IsPosition x.rotation (length x.members)

abbrev pub new_group : Ui → Group
new_group g = record { ui = g; members = []; rotation = 0 }

abbrev pub new_table : ℕ → Table
new_table most = record { groups = []; spare = most }

-- the group of this name, where it is made
abbrev pub group_of : Ui → List Group → Option Group
group_of g [] = None
group_of g (x ∷ xs) = if same_ui x.ui g then Some x else group_of g xs

-- where it stands among them, counted from 0: their number where it is not made
abbrev pub row_of : Ui → List Group → ℕ
row_of g [] = 0
row_of g (x ∷ xs) = if same_ui x.ui g then 0 else row_of g xs + 1

-- the groups with this one changed, where it is made
abbrev pub changed : Ui → (Group → Group) → List Group → List Group
changed g f [] = []
changed g f (x ∷ xs) = if same_ui x.ui g then f x ∷ xs else x ∷ changed g f xs

abbrev pub with_change : Ui → (Group → Group) → Table → Table
with_change g f t = record t { groups = changed g f t.groups }

abbrev pub after_make : Table → Ui → Table
after_make t g = record { groups = t.groups ++ new_group g ∷ []; spare = t.spare - 1 }

-- its members, none where it is not made
abbrev pub members_in : Option Group → List Ui
members_in None = []
members_in (Some x) = x.members

abbrev pub members : Ui → Table → List Ui
members g t = members_in (group_of g t.groups)

-- its rotation place: a position in the list of its members, 0 in an empty one
abbrev pub rotation_in : Option Group → ℕ
rotation_in None = 0
rotation_in (Some x) = x.rotation

abbrev pub rotation : Ui → Table → ℕ
rotation g t = rotation_in (group_of g t.groups)

-- a port joins as the last member
abbrev pub joined : Ui → Group → Group
joined q x = record x { members = x.members ++ q ∷ [] }

abbrev pub left : Ui → Group → Group
left q x = record x { members = without q x.members; rotation = turned_back x.members q x.rotation }

-- the rotation place moves behind a member
abbrev pub turned_behind : Ui → Group → Group
turned_behind q x = record x { rotation = wrapped (length x.members) (index_of q x.members + 1) }
