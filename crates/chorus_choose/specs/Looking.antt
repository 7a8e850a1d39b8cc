-- The order in which enabled ports are looked at.
-- e and x are enabled ports, xs are enabled ports in the order in which they are looked at, q is a port.
use Rattle.std.specs.Prelude.{◌≡◌, ℕ, ◌+◌, ◌≤◌, nat_le, Bool, true, false, ◌||◌, if◌then◌else◌, List, [], ◌∷◌, map, length, Result, Ok, Err}
use Rattle.std.specs.List.{All}
use Rattle.chorus_ui.specs.declared.ui.Ui.{Ui}
use Rattle.chorus_ui.specs.Name.{same_ui}
use Rattle.chorus_ui.specs.NameKind.{is_port}
use Rattle.chorus_choose.specs.declared.chooser.Enabled.{Enabled}
use Rattle.chorus_choose.specs.declared.fault.EnableFault.{EnableFault}
use Rattle.chorus_choose.specs.declared.fault.EnableFault.TheVariants as faults

abbrev pub enabled_limit : ℕ
enabled_limit = 32

abbrev pub ports_of : List Enabled → List Ui
ports_of xs = map (λ (x : Enabled). x.port) xs

-- with e behind all of at least its priority, and before all others
abbrev pub placed : Enabled → List Enabled → List Enabled
placed e [] = e ∷ []
placed e (x ∷ xs) = if nat_le e.priority x.priority then x ∷ placed e xs else e ∷ (x ∷ xs)

-- where the port stands, or the length
abbrev pub index_of : Ui → List Enabled → ℕ
index_of q [] = 0
index_of q (x ∷ xs) = if same_ui x.port q then 0 else index_of q xs + 1

abbrev pub is_enabled : Ui → List Enabled → Bool
is_enabled q [] = false
is_enabled q (x ∷ xs) = same_ui x.port q || is_enabled q xs

abbrev pub without : Ui → List Enabled → List Enabled
without q [] = []
without q (x ∷ xs) = if same_ui x.port q then xs else x ∷ without q xs

-- whether the port may be enabled, and why not
abbrev pub refuses : Ui → List Enabled → Result (Unit {0}) EnableFault
refuses q xs =
    if is_enabled q xs then Err faults.There
    else if nat_le enabled_limit (length xs) then Err faults.EnabledFull
    else Ok tt

abbrev pub after_enable : Ui → ℕ → List Enabled → List Enabled
after_enable q priority xs =
    if is_enabled q xs then xs
    else if nat_le enabled_limit (length xs) then xs
    else placed record { port = q; priority = priority } xs

-- Where the port has just given a message in turn: it stands behind all others of its priority.
abbrev pub turned : Ui → List Enabled → List Enabled
turned q [] = []
turned q (x ∷ xs) = if same_ui x.port q then placed x xs else x ∷ turned q xs

-- What is so of each chooser.

-- by falling priority
abbrev pub IsFalling : List Enabled → Type 0
IsFalling [] = Unit {0}
IsFalling (x ∷ xs) = All (λ (y : Enabled). y.priority ≤ x.priority) xs × IsFalling xs

-- no port is enabled twice
abbrev pub AreApart : List Enabled → Type 0
AreApart [] = Unit {0}
AreApart (x ∷ xs) = (is_enabled x.port xs ≡ false) × AreApart xs

pub record IsChooser (xs : List Enabled) : Type 0 where
  pub few : length xs ≤ enabled_limit
  pub ports : All (λ (x : Enabled). is_port x.port ≡ true) xs
  pub apart : AreApart xs
  pub falling : IsFalling xs
