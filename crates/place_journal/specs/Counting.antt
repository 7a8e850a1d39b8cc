-- What a place counts from its journal: the ports made, those deleted, and the groups.
use Rattle.std.specs.Prelude.{◌≡◌, ℕ, ◌+◌, ◌-◌, ◌∷◌, ◌≤◌, true, IsTrue, List, length, Option, Some, None, is_some}
use Rattle.chorus_ui.specs.declared.limits.TheConstants.{GROUPS_PER_SITE_LIMIT}
use Rattle.chorus_ui.specs.declared.ui.Ui.{Ui}
use Rattle.chorus_ui.specs.declared.layout.Layout.{Layout}
use Rattle.chorus_ui.specs.Layout.{names_port}
use Rattle.chorus_entry.specs.declared.entry.Entry.{Entry}
use Rattle.chorus_entry.specs.declared.act.Act.{Act}
use Rattle.chorus_entry.specs.declared.act.Act.TheVariants.{Make, Delete, GroupMake, Join, Leave, Choose}
use Rattle.chorus_world.specs.Places.{last_clock, ports_made, is_made_here, is_deleted}
use Rattle.chorus_world.specs.Views.{is_group}
use Rattle.chorus_world.specs.Groups as world
use Rattle.chorus_groups.specs.Groups.{Table, group_of, after_make, with_change, joined, left, members, rotation}
use Rattle.chorus_groups.specs.Faults.{join_fault_of, leave_fault_of}
use Rattle.chorus_groups.specs.Choosing.{turned_by}
use Rattle.place_journal.specs.Marks.{Marks, is_marked}

-- a journal as contracts see it: the newest entry first, the groups made there, and how many entries more need no
-- memory
pub record JournalState : Type 0 where
  pub layout : Layout
  pub past : List Entry
  pub groups : Table
  pub spare : ℕ

-- the journal after the making of a group
abbrev pub with_group : JournalState → Entry → Ui → JournalState
with_group j e g = record j { past = e ∷ j.past; groups = after_make j.groups g; spare = j.spare - 1 }

-- the groups after an act other than the making of one
abbrev pub groups_with : Act → Table → Table
groups_with (Join g q) t = with_change g (joined q) t
groups_with (Leave g q) t = with_change g (left q) t
groups_with (Choose x g ms) t = with_change g (turned_by ms) t
groups_with _ t = t

-- the port that an act makes
abbrev pub made_by : Act → Option Ui
made_by (Make q a n) = Some q
made_by _ = None

-- the port that an act deletes
abbrev pub deleted_by : Act → Option Ui
deleted_by (Delete q xs) = Some q
deleted_by _ = None

-- an act that may be appended: who joins or leaves may, a port that is made or deleted is one of the layout, and a
-- group is made by a call of its own
abbrev pub MayFollow : Layout → Table → Act → Type 0
MayFollow l t (Make q a n) = IsTrue (names_port l q)
MayFollow l t (Delete q xs) = IsTrue (names_port l q)
MayFollow l t (GroupMake g) = ⊥
MayFollow l t (Join g q) = join_fault_of t g q ≡ None
MayFollow l t (Leave g q) = leave_fault_of t g q ≡ None
MayFollow l t _ = Unit {0}

-- each count is what the journal tells
pub record IsCounted (past : List Entry) (clock count : ℕ) (made deleted : Marks) (groups : Table) : Type 0 where
  pub clock_is : clock ≡ last_clock past
  pub count_is : count ≡ ports_made past
  pub count_within : count ≤ length past
  pub made_are : (q : Ui) → is_marked made q ≡ is_made_here q past
  pub deleted_are : (q : Ui) → is_marked deleted q ≡ is_deleted q past
  pub members_are : (g : Ui) → members g groups ≡ world.members g past
  pub rotation_is : (g : Ui) → rotation g groups ≡ world.rotation g past
  pub groups_are : length groups.groups ≡ world.groups_made past
  pub named_are : (g : Ui) → is_some (group_of g groups.groups) ≡ is_group g past
  pub numbers_within : (g : Ui) → is_group g past ≡ true → g.number ≤ world.groups_made past
  pub room_is : world.groups_made past + groups.spare ≡ GROUPS_PER_SITE_LIMIT
