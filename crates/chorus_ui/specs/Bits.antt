-- A name as a number of 64 bits: from high to low 16 bits of site, 8 of kind and 40 of number.
use Rattle.std.specs.Prelude.{◌≡◌, ℕ, zero, suc, refl, ◌+◌, ◌*◌, ◌/◌, ◌%◌, ◌^◌, ◌<◌, ◌≤◌, Option, Some, unwrap_or}
use Rattle.std.proofs.Common.{arith}
use Rattle.chorus_ui.specs.declared.kind.Kind.{Kind}
use Rattle.chorus_ui.specs.declared.kind.Kind.TheVariants.{Group}
use Rattle.chorus_ui.specs.Kind.{kind_number, kind_with_number}
use Rattle.chorus_ui.specs.Name.{Name, name_of_parts}

abbrev pub name_bits : Name → ℕ
name_bits u = u.site * 2 ^ 48 + kind_number u.kind * 2 ^ 40 + u.number

abbrev pub site_bits : ℕ → ℕ
site_bits bits = bits / 2 ^ 48

abbrev pub kind_bits : ℕ → ℕ
kind_bits bits = bits / 2 ^ 40 % 2 ^ 8

abbrev pub number_bits : ℕ → ℕ
number_bits bits = bits % 2 ^ 40

-- the name with these bits, where there is one
abbrev pub name_of_bits : ℕ → Option Name
name_of_bits bits = name_of_parts (Some (site_bits bits)) (kind_with_number (kind_bits bits)) (Some (number_bits bits))

-- these are the bits of a name
pub record HoldsName (bits : ℕ) : Type 0 where
  pub in_64_bits : bits < 2 ^ 64
  pub site_from_one : 1 ≤ site_bits bits
  pub kind_from_one : 1 ≤ kind_bits bits
  pub kind_to_three : kind_bits bits ≤ 3
  pub number_from_one : 1 ≤ number_bits bits

-- the kind in the bits of a name
abbrev pub kind_held : ℕ → Kind
kind_held n = unwrap_or (kind_with_number n) Group

-- the name that they hold
abbrev pub name_held : ℕ → Name
name_held bits = record { site = site_bits bits; kind = kind_held (kind_bits bits); number = number_bits bits }

kind_number-kind_held : (n : ℕ) → 1 ≤ n → n ≤ 3 → kind_number (kind_held n) ≡ n
kind_number-kind_held zero low high = absurd (omega arith)
kind_number-kind_held (suc zero) low high = refl
kind_number-kind_held (suc (suc zero)) low high = refl
kind_number-kind_held (suc (suc (suc zero))) low high = refl
kind_number-kind_held (suc (suc (suc (suc n)))) low high = absurd (omega arith)

-- a name gives back the bits that hold it, so that a `Ui` can be seen as its name
pub name_bits-name_held : (bits : ℕ) → HoldsName bits → name_bits (name_held bits) ≡ bits
name_bits-name_held bits h =
    rw (kind_number-kind_held (kind_bits bits) h.kind_from_one h.kind_to_three) (omega arith)
