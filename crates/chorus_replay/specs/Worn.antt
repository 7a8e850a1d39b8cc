-- How far a replay comes: to its end, or to the first event that compares a clock from 2^62 on.
-- l is a layout, es are events and ts are tasks, both with the latest first.
use Rattle.std.specs.Prelude.{ℕ, ◌≡◌, ◌≤◌, ◌⊎◌, List, [], ◌∷◌, ◌++◌, Some}
use Rattle.chorus_ui.specs.declared.layout.Layout.{Layout}
use Rattle.chorus_ui.specs.declared.limits.TheConstants.{CLOCK_LIMIT}
use Rattle.law_network.specs.Network.{Event, schedule}
use Rattle.law_network.specs.Tasks.{Task, Do, Drain, CarryOut}
use Rattle.chorus_net.specs.Worn.{compared_by, IsInRounds}

-- the events carry out the first of the tasks, and of a drain behind these the first deliveries; and this one comes
-- next
abbrev pub ComesNext : Layout → List Task → Event → List Event → Type 0
ComesNext l [] next es = ⊥
ComesNext l (Do event ∷ ts) next es = ((next ≡ event) × CarryOut l ts es) ⊎ ComesNext l ts next es
ComesNext l (Drain seat ∷ ts) next es =
    ((done : List Event) × ((older : List Event)
    × (IsInRounds l seat next done × (es ≡ done ++ older) × CarryOut l ts older)))
    ⊎ ComesNext l ts next es

-- the event that comes next compares this clock, from 2^62 on
pub record AreWornBy (l : Layout) (ts : List Task) (es : List Event) (clock : ℕ) : Type 0 where
  pub next : Event
  pub comes : ComesNext l ts next es
  pub is : compared_by next (schedule l es) ≡ Some clock
  pub worn : CLOCK_LIMIT ≤ clock
