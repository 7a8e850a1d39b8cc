-- The names that setup lines make.
use Rattle.std.specs.Prelude.{ℕ, ◌+◌, ◌*◌, ◌-◌, ◌%◌, Bool, ◌&&◌, List, [], ◌∷◌, ◌++◌, ◌==◌, if◌then◌else◌, count_by}
use Rattle.chorus_ui.specs.declared.kind.Kind.{Kind}
use Rattle.chorus_ui.specs.declared.kind.Kind.TheVariants as kinds
use Rattle.chorus_ui.specs.Kind.{same_kind}
use Rattle.chorus_ui.specs.Name.{same_ui}
use Rattle.chorus_ui.specs.declared.ui.Ui.{Ui}
use Rattle.chorus_ui.specs.declared.layout.Layout.{Layout}
use Rattle.chorus_scene.specs.declared.scenario.SetupLine.{SetupLine}
use Rattle.chorus_scene.specs.declared.scenario.SetupLine.TheVariants as setups

-- how far apart the numbers are that one place gives: a site's ports are shared out among its places, and all its
-- groups are made at its first place
abbrev pub stride : Layout → Kind → ℕ
stride l kinds.Port = l.turns
stride l _ = 1

-- a name of this kind and site, given by the place that gives this number
abbrev pub shares_place : Layout → Kind → ℕ → ℕ → Ui → Bool
shares_place l kind site number u =
    same_kind u.kind kind && (u.site == site) && ((u.number - 1) % stride l kind == (number - 1) % stride l kind)

-- the name of the least number that the place has not given, where these were made before
abbrev pub next_name : Layout → Kind → ℕ → ℕ → List Ui → Ui
next_name l kind site number made = record {
  site = site;
  kind = kind;
  number = 1 + (number - 1) % stride l kind + stride l kind * count_by (shares_place l kind site number) made;
}

-- a port is named by its actor's home place, and a group by its site's first place
abbrev pub next_port : Layout → Ui → List Ui → Ui
next_port l actor made = next_name l kinds.Port actor.site actor.number made

abbrev pub next_group : Layout → ℕ → List Ui → Ui
next_group l site made = next_name l kinds.Group site 1 made

-- what a line makes, where these were made before
abbrev pub makes : Layout → List Ui → SetupLine → List Ui
makes l made (setups.Port actor capacity) = next_port l actor made ∷ []
makes l made (setups.Group site) = next_group l site made ∷ []
makes l made (setups.Member group port) = []

-- what lines make, behind what was made before
abbrev pub made_after : Layout → List Ui → List SetupLine → List Ui
made_after l made [] = made
made_after l made (line ∷ lines) = made_after l (made ++ makes l made line) lines

-- the name that a line begins with: what it makes, or the group that is joined
abbrev pub name_said : Layout → List Ui → SetupLine → Ui
name_said l made (setups.Port actor capacity) = next_port l actor made
name_said l made (setups.Group site) = next_group l site made
name_said l made (setups.Member group port) = group

abbrev pub names_said : Layout → List Ui → List SetupLine → List Ui
names_said l made [] = []
names_said l made (line ∷ lines) = name_said l made line ∷ names_said l (made ++ makes l made line) lines

-- the members that lines give a group, in the order of the lines
abbrev pub members_of : Ui → List SetupLine → List Ui
members_of group [] = []
members_of group (setups.Port actor capacity ∷ lines) = members_of group lines
members_of group (setups.Group site ∷ lines) = members_of group lines
members_of group (setups.Member joined port ∷ lines) =
    if same_ui joined group then port ∷ members_of group lines else members_of group lines
