-- Schedules as threads make them: whoever came delivers and sees entries, whenever it likes.
-- c is a scenario, comers are those who come, es are events, the latest first, k is a seat, done is how many commands of each
-- script were given.
use Rattle.std.specs.Prelude.{ℕ, suc, ◌≡◌, ◌≤◌, true, List, [], ◌++◌, map, reverse, Some, unwrap_or, slice_get, slice_index_or}
use Rattle.std.specs.List.{All}
use Rattle.chorus_ui.specs.declared.ui.Ui.{Ui}
use Rattle.chorus_ui.specs.Layout.{IsLayout}
use Rattle.law_history.specs.Journals.{Comer, coming}
use Rattle.law_history.specs.Runs.{actor_among}
use Rattle.law_network.specs.Left.{merged_past}
use Rattle.law_network.specs.Network.{Event, Enter, Act, Deliver, See, schedule}
use Rattle.law_network.specs.Schedules.{commands_of, may_be}
use Rattle.chorus_scene.specs.Limits.{Keeps}
use Rattle.chorus_scene.specs.Scene.{Scene, Script}
use Rattle.chorus_net.specs.declared.closed.Closed.{Closed}
use Rattle.chorus_net.specs.Closing.{IsLeft}
use Rattle.chorus_report.specs.Awaiting.{StandsAt, fronts_of}
use Rattle.chorus_report.specs.Headline.{callers_of}
use Rattle.law_outcomes.specs.Closed.{IsOfWhole}

-- of the setup: seat 0 alone gives commands
abbrev pub IsOfSetup : Event → Type 0
IsOfSetup (Enter actor last) = ⊥
IsOfSetup (Act k command) = k ≡ 0
IsOfSetup (Deliver k a b) = Unit {0}
IsOfSetup (See k clock) = Unit {0}

-- of the race: all others do
abbrev pub IsOfRace : Event → Type 0
IsOfRace (Enter actor last) = ⊥
IsOfRace (Act k command) = 1 ≤ k
IsOfRace (Deliver k a b) = Unit {0}
IsOfRace (See k clock) = Unit {0}

-- The events play the scenario: all come, seat 0 and those of the scripts first and in their order; seat 0 performs the
-- setup; then the commands of the scripts are given, each script's in its order, and each await among them receives a
-- message; and at the end no packet is left, and a script of which commands are left waits for what its port does not
-- give. Anybody delivers, and sees entries.
pub record ArePlayed (c : Scene) (es : List Event) : Type 0 where
  pub comers : List Comer
  pub setup : List Event
  pub race : List Event
  pub done : List ℕ
  pub is : es ≡ race ++ (setup ++ reverse (map coming comers))
  pub of_setup : All IsOfSetup setup
  pub of_race : All IsOfRace race
  pub may : may_be c.layout es ≡ true
  pub came : (k : ℕ) (actor : Ui) → callers_of c k ≡ Some actor → actor_among comers k ≡ Some actor
  pub gave : (k : ℕ) → commands_of k es ≡ reverse (unwrap_or (fronts_of c done k) [])
  pub stands : (i : ℕ) (script : Script) → slice_get c.scripts i ≡ Some script →
      StandsAt c.layout script (suc i) (slice_index_or done i 0) (merged_past (schedule c.layout es))
  pub ended : (schedule c.layout es).packets ≡ []

-- Whoever delivered, what is closed then is what a whole history comes to.
abbrev pub PlaysAreHistories : Type 0
PlaysAreHistories =
    (c : Scene) (es : List Event) (closed : Closed) → IsLayout c.layout → Keeps c → ArePlayed c es →
    IsLeft (schedule c.layout es) closed → IsOfWhole c closed
