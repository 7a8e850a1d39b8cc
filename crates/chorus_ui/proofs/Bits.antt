-- The bits of a name, both ways.
use Rattle.std.proofs.Common.{◌≡◌, ℕ, ◌^◌, ◌<◌, Some, refl, arith}
use Rattle.chorus_ui.specs.declared.kind.Kind.{Kind}
use Rattle.chorus_ui.specs.declared.kind.Kind.TheVariants.{Actor, Port, Group}
use Rattle.chorus_ui.specs.Kind.{kind_number, kind_with_number}
use Rattle.chorus_ui.specs.Name.{Name, IsName}
use Rattle.chorus_ui.specs.Bits.{name_bits, site_bits, kind_bits, number_bits, name_of_bits}
use Rattle.chorus_ui.proofs.Names.{new_name-IsName}

kind_number_fits : (k : Kind) → kind_number k < 2 ^ 8
kind_number_fits Actor = omega arith
kind_number_fits Port = omega arith
kind_number_fits Group = omega arith

kind_with_number-kind_number : (k : Kind) → kind_with_number (kind_number k) ≡ Some k
kind_with_number-kind_number Actor = refl
kind_with_number-kind_number Port = refl
kind_with_number-kind_number Group = refl

-- the bits of a name are read as it
pub name_of_bits-name_bits : (u : Name) → IsName u → name_of_bits (name_bits u) ≡ Some u
name_of_bits-name_bits u h =
    let fits = kind_number_fits u.kind in
    let s : site_bits (name_bits u) ≡ u.site = omega arith in
    let k : kind_bits (name_bits u) ≡ kind_number u.kind = omega arith in
    let n : number_bits (name_bits u) ≡ u.number = omega arith in
    rw (s, k, n, kind_with_number-kind_number u.kind) (new_name-IsName u h)
