-- What becomes of the looking order by what is done to a chooser.
-- q is a port, p a priority, xs are enabled ports in the order in which they are looked at, cs is what is done, one
-- after another.
use Rattle.std.specs.Prelude.{◌≡◌, ℕ, ◌==◌, nat_le, if◌then◌else◌, List, [], ◌∷◌, ◌++◌, length}
use Rattle.std.specs.List.{filter}
use Rattle.chorus_ui.specs.declared.ui.Ui.{Ui}
use Rattle.chorus_ui.specs.Name.{same_ui}
use Rattle.chorus_choose.specs.declared.chooser.Enabled.{Enabled}
use Rattle.chorus_choose.specs.declared.laws.Change.{Change}
use Rattle.chorus_choose.specs.declared.laws.Change.TheVariants as changes
use Rattle.chorus_choose.specs.Looking.{enabled_limit, is_enabled, without, after_enable, turned, IsFalling}

abbrev pub changed : Change → List Enabled → List Enabled
changed (changes.Enable port priority) xs = after_enable port priority xs
changed (changes.Disable port) xs = without port xs
changed (changes.Give port) xs = turned port xs

-- the order behind all of it
abbrev pub order_after : List Change → List Enabled → List Enabled
order_after [] xs = xs
order_after (c ∷ cs) xs = order_after cs (changed c xs)

-- The same ports, whatever their priorities, in the order in which they were last enabled or gave in turn.

abbrev pub added : Ui → ℕ → List Enabled → List Enabled
added q p xs =
    if is_enabled q xs then xs
    else if nat_le enabled_limit (length xs) then xs
    else xs ++ (record { port = q; priority = p } ∷ [])

abbrev pub moved : Ui → List Enabled → List Enabled
moved q [] = []
moved q (x ∷ xs) = if same_ui x.port q then xs ++ x ∷ [] else x ∷ moved q xs

abbrev pub noted : Change → List Enabled → List Enabled
noted (changes.Enable port priority) xs = added port priority xs
noted (changes.Disable port) xs = without port xs
noted (changes.Give port) xs = moved port xs

abbrev pub noted_after : List Change → List Enabled → List Enabled
noted_after [] xs = xs
noted_after (c ∷ cs) xs = noted_after cs (noted c xs)

-- The law.

abbrev pub of_priority : ℕ → List Enabled → List Enabled
of_priority p xs = filter (λ (x : Enabled). x.priority == p) xs

-- ports stand by falling priority, and those of one priority as they were last enabled or gave in turn
abbrev pub ChangesOrder : Type 0
ChangesOrder =
    (cs : List Change) → IsFalling (order_after cs [])
    × ((p : ℕ) → of_priority p (order_after cs []) ≡ of_priority p (noted_after cs []))
