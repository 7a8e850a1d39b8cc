-- A name, unique in time and space: the site that made it, what it names, and its number there.
use Rattle.std.specs.Prelude.{ℕ, ◌^◌, ◌<◌, ◌≤◌, Bool, ◌&&◌, ◌==◌, nat_lt, nat_le, Option, Some, None, if◌then◌else◌}
use Rattle.std.specs.declared.cmp.Ordering.{Ordering}
use Rattle.std.specs.Ordering.{nat_cmp, on, then_cmp}
use Rattle.chorus_ui.specs.declared.kind.Kind.{Kind}
use Rattle.chorus_ui.specs.Kind.{kind_number, same_kind}

pub record Name : Type 0 where
  pub site : ℕ
  pub kind : Kind
  pub number : ℕ

-- the ranges that each name keeps
pub record IsName (u : Name) : Type 0 where
  pub site_from_one : 1 ≤ u.site
  pub site_in_16_bits : u.site < 2 ^ 16
  pub number_from_one : 1 ≤ u.number
  pub number_in_40_bits : u.number < 2 ^ 40

-- the same, as a test
abbrev pub is_name : Name → Bool
is_name u = nat_le 1 u.site && nat_lt u.site (2 ^ 16) && nat_le 1 u.number && nat_lt u.number (2 ^ 40)

-- the name of these parts, where they are within the ranges
abbrev pub new_name : ℕ → Kind → ℕ → Option Name
new_name s k n = let u : Name = record { site = s; kind = k; number = n } in if is_name u then Some u else None

-- the same, where each part may be missing
abbrev pub name_of_parts : Option ℕ → Option Kind → Option ℕ → Option Name
name_of_parts (Some s) (Some k) (Some n) = new_name s k n
name_of_parts (Some s) (Some k) None = None
name_of_parts (Some s) None n = None
name_of_parts None k n = None

abbrev pub same_ui : Name → Name → Bool
same_ui u v = (u.site == v.site) && same_kind u.kind v.kind && (u.number == v.number)

-- by site, then by kind, then by number
abbrev pub name_cmp : Name → Name → Ordering
name_cmp =
    then_cmp (then_cmp (on (λ u. u.site) nat_cmp) (on (λ u. kind_number u.kind) nat_cmp)) (on (λ u. u.number) nat_cmp)
