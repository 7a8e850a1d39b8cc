-- Two things of which each may be missing.
use Rattle.std.specs.Prelude.{ℕ, Bool, true, false, ◌==◌, Option, Some, None}
use Rattle.chorus_ui.specs.declared.ui.Ui.{Ui}
use Rattle.chorus_ui.specs.Name.{same_ui}

-- both are there, and the same
abbrev pub are_same : {A : Type 0} → (A → A → Bool) → Option A → Option A → Bool
are_same same None b = false
are_same same (Some a) None = false
are_same same (Some a) (Some b) = same a b

-- the number is there, and is n
abbrev pub is_number : ℕ → Option ℕ → Bool
is_number n None = false
is_number n (Some m) = m == n

-- both messages went through the same group, or neither through one
abbrev pub same_route : Option Ui → Option Ui → Bool
same_route None None = true
same_route (Some g) (Some h) = same_ui g h
same_route _ _ = false
