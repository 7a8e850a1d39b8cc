-- Groups: what the table has of each group at each place, and what an entry makes of it.
use Rattle.std.specs.Prelude.{ℕ, ◌≡◌, ◌==◌, ◌≤◌, Bool, true, false, ◌||◌, cond, List, [], ◌∷◌, ◌++◌, length, Option, Some, None, unwrap_or}
use Rattle.std.specs.HashMap.{HashMap, get}
use Rattle.chorus_ui.specs.declared.ui.Ui.{Ui}
use Rattle.chorus_ui.specs.Name.{same_ui}
use Rattle.chorus_entry.specs.declared.entry.Entry.{Entry}
use Rattle.chorus_entry.specs.declared.act.Act.{Act}
use Rattle.chorus_entry.specs.declared.act.Act.TheVariants.{GroupMake, Join, Leave, Choose}
use Rattle.chorus_entry.specs.Members.{without, turned, turned_back}
use Rattle.chorus_world.specs.Views.{at, makes_group, is_group}
use Rattle.chorus_world.specs.Groups.{members_after, members, rotation_after, rotation}
use Rattle.checker_rows.specs.Keys.{same_name_at}
use Rattle.checker_rows.specs.declared.keys.NameAt.{NameAt}

-- a group as the entries of a place leave it: whether it was made there, its members, and its rotation place
pub record GroupRow : Type 0 where
  pub made : Bool
  pub members : List Ui
  pub rotation : ℕ

-- what the fields of a group stand for
abbrev pub group_state : Bool → List Ui → ℕ → GroupRow
group_state made members rotation = record { made = made; members = members; rotation = rotation }

-- its rotation place is within its members, or just behind them
abbrev pub IsGroupRow : GroupRow → Type 0
IsGroupRow r = r.rotation ≤ length r.members

abbrev pub no_group : GroupRow
no_group = record { made = false; members = []; rotation = 0 }

abbrev pub group_in : {S : Type 0} → HashMap NameAt GroupRow S → NameAt → GroupRow
group_in t k = unwrap_or (get same_name_at t k) no_group

abbrev pub group_row : List Entry → NameAt → GroupRow
group_row past k =
    record {
      made = is_group k.name (at k.place past);
      members = members k.name (at k.place past);
      rotation = rotation k.name (at k.place past);
    }

-- the group g after an act at its place: all of it, where a port joins alone, and where none does
abbrev pub group_here : Ui → Act → GroupRow → GroupRow
group_here g a r =
    record {
      made = makes_group g a || r.made;
      members = members_after g a r.members;
      rotation = rotation_after g r.members a r.rotation;
    }

abbrev pub joined_here : Ui → Act → GroupRow → GroupRow
joined_here g (Join h q) r = record r { members = cond (same_ui h g) (r.members ++ q ∷ []) r.members }
joined_here g _ r = r

abbrev pub changed_here : Ui → Act → GroupRow → GroupRow
changed_here g (Join h q) r = r
changed_here g a r = group_here g a r

-- a group after a port joined or left, after a choice of these members, and after an act that changes it
abbrev pub joined : Ui → GroupRow → GroupRow
joined q r = record r { members = r.members ++ q ∷ [] }

abbrev pub left : Ui → GroupRow → GroupRow
left q r = record r { members = without q r.members; rotation = turned_back r.members q r.rotation }

abbrev pub turned_by : List Ui → GroupRow → GroupRow
turned_by qs r = record r { rotation = turned r.members qs r.rotation }

abbrev pub changed_own : Act → GroupRow → GroupRow
changed_own (GroupMake h) r = record r { made = true }
changed_own (Leave h q) r = left q r
changed_own (Choose x h qs) r = turned_by qs r
changed_own _ r = r

-- the group that the act makes, leaves or chooses of
abbrev pub changed_group : Act → Option Ui
changed_group (GroupMake g) = Some g
changed_group (Leave g q) = Some g
changed_group (Choose x g qs) = Some g
changed_group _ = None

abbrev pub group_after : NameAt → Entry → GroupRow → GroupRow
group_after k e r = cond (e.place == k.place) (group_here k.name e.act r) r

-- the groups after an entry: where a port joins, and where none does
abbrev pub GroupsJoined : Entry → (NameAt → GroupRow) → (NameAt → GroupRow) → Type 0
GroupsJoined e old new =
    (k : NameAt) → new k ≡ cond (e.place == k.place) (joined_here k.name e.act (old k)) (old k)

abbrev pub GroupsChanged : Entry → (NameAt → GroupRow) → (NameAt → GroupRow) → Type 0
GroupsChanged e old new =
    (k : NameAt) → new k ≡ cond (e.place == k.place) (changed_here k.name e.act (old k)) (old k)

abbrev pub GroupsStay : (NameAt → GroupRow) → (NameAt → GroupRow) → Type 0
GroupsStay old new = (k : NameAt) → new k ≡ old k
