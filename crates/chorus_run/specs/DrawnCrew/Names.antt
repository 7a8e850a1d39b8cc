-- The eight ports, each of an actor of its site.
use Rattle.std.specs.Prelude.{ℕ, List, [], ◌∷◌}
use Rattle.chorus_ui.specs.declared.kind.Kind.TheVariants as kinds
use Rattle.chorus_ui.specs.declared.ui.Ui.{Ui}

abbrev pub crew_actor : ℕ → Ui
crew_actor site = record { site = site; kind = kinds.Actor; number = 1 }

abbrev pub crew_port : ℕ → Ui
crew_port site = record { site = site; kind = kinds.Port; number = 1 }

-- the port with the actor that takes from it
abbrev pub crew_pair : ℕ → Ui × Ui
crew_pair site = (crew_port site, crew_actor site)

abbrev pub crew_pairs : List (Ui × Ui)
crew_pairs =
    crew_pair 1 ∷ crew_pair 2 ∷ crew_pair 3 ∷ crew_pair 4 ∷ crew_pair 5 ∷ crew_pair 6 ∷ crew_pair 7 ∷ crew_pair 8 ∷ []
