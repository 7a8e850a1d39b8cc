-- Names: the tests and what they say.
use Rattle.std.proofs.Common.{◌≡◌, ◌≢◌, ◌⊎◌, inl, inr, ℕ, Bool, true, false, true≢false, ◌==◌, ◌&&◌, Option, Some, None, refl, sym, ap, ◌∙◌, arith, IfSome, if◌then◌else◌}
use Rattle.std.proofs.lemmas.Bool.{and_parts}
use Rattle.std.proofs.lemmas.Bool.Decides.{nat_tests}
use Rattle.chorus_ui.specs.declared.kind.Kind.{Kind}
use Rattle.chorus_ui.specs.declared.kind.Kind.TheVariants.{Actor, Port, Group}
use Rattle.chorus_ui.specs.Kind.{same_kind}
use Rattle.chorus_ui.specs.Name.{Name, IsName, is_name, new_name, name_of_parts, same_ui}

pub from_same_kind : (k l : Kind) → same_kind k l ≡ true → k ≡ l
from_same_kind Actor Actor h = refl
from_same_kind Actor Port h = grind arith
from_same_kind Actor Group h = grind arith
from_same_kind Port Actor h = grind arith
from_same_kind Port Port h = refl
from_same_kind Port Group h = grind arith
from_same_kind Group Actor h = grind arith
from_same_kind Group Port h = grind arith
from_same_kind Group Group h = refl

pub same_kind-self : (k : Kind) → same_kind k k ≡ true
same_kind-self Actor = refl
same_kind-self Port = refl
same_kind-self Group = refl

-- names that are the same are equal
pub from_same_ui : (u v : Name) → same_ui u v ≡ true → u ≡ v
from_same_ui u v h =
    let outer = and_parts ((u.site == v.site) && same_kind u.kind v.kind) (u.number == v.number) h in
    let inner = and_parts (u.site == v.site) (same_kind u.kind v.kind) outer.0 in
    let s : u.site ≡ v.site = grind (arith, nat_tests) in
    let k : u.kind ≡ v.kind = from_same_kind u.kind v.kind inner.1 in
    let n : u.number ≡ v.number = grind (arith, nat_tests) in
    λ i. record { site = s i; kind = k i; number = n i }

pub same_ui-self : (u : Name) → same_ui u u ≡ true
same_ui-self u = grind (arith, nat_tests, same_kind-self u.kind)

-- both at once, for `grind`
pub same_ui_tells : (u v : Name) → ((same_ui u v ≡ true) × (u ≡ v)) ⊎ ((same_ui u v ≡ false) × (u ≢ v))
same_ui_tells u v = by_test (same_ui u v) refl
  where
    by_test : (t : Bool) → same_ui u v ≡ t → ((same_ui u v ≡ true) × (u ≡ v)) ⊎ ((same_ui u v ≡ false) × (u ≢ v))
    by_test true e = inl (e, from_same_ui u v e)
    by_test false e = inr (e, λ same. true≢false (sym (same_ui-self u) ∙ ap (same_ui u) same ∙ e))

pub from_is_name : (u : Name) → is_name u ≡ true → IsName u
from_is_name u h = record { site_from_one = grind (arith, nat_tests); site_in_16_bits = grind (arith, nat_tests); number_from_one = grind (arith, nat_tests); number_in_40_bits = grind (arith, nat_tests) }

pub is_name-IsName : (u : Name) → IsName u → is_name u ≡ true
is_name-IsName u h = grind (arith, nat_tests)

pub new_name-IsName : (u : Name) → IsName u → new_name u.site u.kind u.number ≡ Some u
new_name-IsName u h = rw (is_name-IsName u h) refl

-- a name of parts is within the ranges
named_by : (t : Bool) (u : Name) → is_name u ≡ t → IfSome (if t then Some u else None) IsName
named_by true u e = from_is_name u e
named_by false u e = tt

pub name_of_parts_some : (s : Option ℕ) (k : Option Kind) (n : Option ℕ) → IfSome (name_of_parts s k n) IsName
name_of_parts_some (Some s) (Some k) (Some n) = let u : Name = record { site = s; kind = k; number = n } in named_by (is_name u) u refl
name_of_parts_some (Some s) (Some k) None = tt
name_of_parts_some (Some s) None n = tt
name_of_parts_some None k n = tt
