-- The members that a post to a group chooses.
use Rattle.std.specs.Prelude.{ℕ, ◌==◌, Bool, ◌&&◌, not, if◌then◌else◌, List, [], ◌∷◌, Option, Some, None}
use Rattle.chorus_ui.specs.declared.ui.Ui.{Ui}
use Rattle.chorus_entry.specs.declared.dest.Dest.{Dest}
use Rattle.chorus_entry.specs.declared.dest.Dest.TheVariants.{Port, All, One, OneAt}
use Rattle.chorus_entry.specs.Dest.{group_in}
use Rattle.chorus_entry.specs.Members.{round_from, first_of, listed, turned}
use Rattle.chorus_groups.specs.Groups.{Group, Table, members, rotation, with_change}

-- a port with this newest site, which is 0 where it is located nowhere, is on the site s
abbrev pub is_on : ℕ → ℕ → Bool
is_on s newest = (newest == s) && not (s == 0)

-- the first of the ports that is on the site, where each has the newest site that stands at its position
abbrev pub first_at : ℕ → List Ui → List ℕ → Option Ui
first_at s [] located = None
first_at s (q ∷ qs) [] = None
first_at s (q ∷ qs) (newest ∷ located) = if is_on s newest then Some q else first_at s qs located

-- the first of them from a position on, round the list
abbrev pub first_round : ℕ → ℕ → List Ui → List ℕ → Option Ui
first_round i s qs located = first_at s (round_from i qs) (round_from i located)

-- the members of the group that is posted to, where it is posted to one
abbrev pub members_of : Option Ui → Table → List Ui
members_of None t = []
members_of (Some g) t = members g t

abbrev pub members_for : Dest → Table → List Ui
members_for d t = members_of (group_in d) t

-- the members that a post chooses: all, one, or one at a site
abbrev pub choice : Table → Dest → List ℕ → List Ui
choice t (Port q) located = []
choice t (All g) located = members g t
choice t (One g) located = listed (first_of (round_from (rotation g t) (members g t)))
choice t (OneAt g s) located =
    listed (first_round (rotation g t) s (members g t) located)

-- the group with its rotation place after this choice
abbrev pub turned_by : List Ui → Group → Group
turned_by chosen x = record x { rotation = turned x.members chosen x.rotation }

-- the one port of a list of one
abbrev pub only : List Ui → Option Ui
only (q ∷ []) = Some q
only _ = None

-- a broadcast leaves it as it was
abbrev pub after_choose : Table → Dest → List ℕ → Table
after_choose t (Port q) located = t
after_choose t (All g) located = t
after_choose t (One g) located = with_change g (turned_by (choice t (One g) located)) t
after_choose t (OneAt g s) located = with_change g (turned_by (choice t (OneAt g s) located)) t
