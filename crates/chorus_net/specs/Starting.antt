-- Places on which nothing happened yet.
-- l is the layout, k is the number of the first place, s is a place's state.
use Rattle.std.specs.Prelude.{ℕ, ◌≡◌, ◌+◌, List, [], ◌∷◌}
use Rattle.chorus_ui.specs.declared.layout.Layout.{Layout}
use Rattle.chorus_ui.specs.Layout.{places}
use Rattle.place_outbox.specs.Waiting.{nothing_to}
use Rattle.law_machine.specs.PlaceState.{PlaceState, started}
use Rattle.chorus_place.specs.Calls.{Place, state}

pub record HasStarted (l : Layout) (k : ℕ) (p : Place) : Type 0 where
  pub state : state p ≡ started l k
  pub waits : p.out.lists ≡ nothing_to (places l)

abbrev pub HaveStarted : Layout → ℕ → List Place → Type 0
HaveStarted l k [] = Unit {0}
HaveStarted l k (p ∷ ps) = HasStarted l k p × HaveStarted l (k + 1) ps

-- with no entry, the place is as it was started
abbrev pub IsUntouched : PlaceState → Type 0
IsUntouched s = s.journal ≡ [] → s ≡ started s.layout s.number
