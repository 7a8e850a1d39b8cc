-- The places of a layout, and where a name stands among them.
use Rattle.std.specs.Prelude.{◌≢◌, ℕ, ◌≤◌, ◌+◌, ◌-◌, ◌*◌, ◌/◌, ◌%◌, Bool, ◌&&◌, ◌||◌, ◌==◌, nat_le, Option, Some, None, if◌then◌else◌}
use Rattle.chorus_ui.specs.Kind.{same_kind}
use Rattle.chorus_ui.specs.Name.{Name}
use Rattle.chorus_ui.specs.declared.kind.Kind.TheVariants.{Port}
use Rattle.chorus_ui.specs.declared.limits.TheConstants.{SITES_LIMIT, PLACES_PER_SITE_LIMIT, ACTORS_PER_SITE_LIMIT, PORTS_PER_SITE_LIMIT}

-- how many sites there are, and how many places per site: `turns`
pub record Shape : Type 0 where
  pub sites : ℕ
  pub turns : ℕ

-- 1 to 16 sites of 1, 2 or 4 places
pub record IsLayout (l : Shape) : Type 0 where
  pub sites_from_one : 1 ≤ l.sites
  pub sites_to_max : l.sites ≤ SITES_LIMIT
  pub turns_from_one : 1 ≤ l.turns
  pub turns_to_four : l.turns ≤ PLACES_PER_SITE_LIMIT
  pub turns_not_three : l.turns ≢ 3

-- the same, as a test
abbrev pub is_layout : Shape → Bool
is_layout l = nat_le 1 l.sites && nat_le l.sites SITES_LIMIT
    && ((l.turns == 1) || (l.turns == 2) || (l.turns == PLACES_PER_SITE_LIMIT))

-- the layout of these numbers
abbrev pub new_layout : ℕ → ℕ → Option Shape
new_layout s t = let l : Shape = record { sites = s; turns = t } in if is_layout l then Some l else None

-- places are numbered from 1 to this
abbrev pub places : Shape → ℕ
places l = l.sites * l.turns

abbrev pub has_site : Shape → ℕ → Bool
has_site l site = nat_le 1 site && nat_le site l.sites

abbrev pub has_place : Shape → ℕ → Bool
has_place l place = nat_le 1 place && nat_le place (places l)

-- the first place of a site
abbrev pub first_place : Shape → ℕ → ℕ
first_place l site = (site - 1) * l.turns + 1

-- where a thing of this name stands on a site: a site's things are divided among its places by their numbers
abbrev pub place_at : Shape → ℕ → Name → ℕ
place_at l site u = first_place l site + (u.number - 1) % l.turns

-- the site of a place
abbrev pub site_of : Shape → ℕ → ℕ
site_of l place = (place - 1) / l.turns + 1

-- the eight actors of each site are there from the start
abbrev pub has_actor : Shape → Name → Bool
has_actor l u = has_site l u.site && nat_le 1 u.number && nat_le u.number ACTORS_PER_SITE_LIMIT

-- a site makes at most 32 ports
abbrev pub can_make_port : Shape → Name → Bool
can_make_port l u = has_site l u.site && nat_le 1 u.number && nat_le u.number PORTS_PER_SITE_LIMIT

-- a name of such a port
abbrev pub names_port : Shape → Name → Bool
names_port l u = same_kind u.kind Port && can_make_port l u

-- how many ports a layout makes
abbrev pub ports_of : Shape → ℕ
ports_of l = l.sites * PORTS_PER_SITE_LIMIT

-- where a port stands among them, by site and then by number, counted from 0
abbrev pub port_row : Name → ℕ
port_row u = (u.site - 1) * PORTS_PER_SITE_LIMIT + (u.number - 1)

-- where a thing of this name stands on the site that made it
abbrev pub creation_place : Shape → Name → ℕ
creation_place l u = place_at l u.site u

-- the home place of an actor, where the layout has it
abbrev pub home : Shape → Name → Option ℕ
home l actor = if has_actor l actor then Some (creation_place l actor) else None

-- the place of a group, where the layout has its site: groups stand at the first place, and never move
abbrev pub group_place : Shape → Name → Option ℕ
group_place l group = if has_site l group.site then Some (first_place l group.site) else None
