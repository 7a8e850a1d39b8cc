-- What a table of one slot keeps: an empty list with room.
use Rattle.std.specs.Prelude.{◌≡◌, ℕ, ◌≤◌, [], ◌∷◌}
use mathlib.Core.Option.{some}
use Rattle.atomic_table.specs.Table.{State}

abbrev pub KeepsRoom : {V W : Type 0} → (V → ℕ) → (V → ℕ) → ℕ → State V W → Type 0
KeepsRoom {V} len capacity n s = (v : V) × (s.homes ≡ some v ∷ []) × (len v ≡ 0) × (n ≤ capacity v)
