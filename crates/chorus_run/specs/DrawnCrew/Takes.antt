-- What the crew did on a nucleus, and what of it the journals have.
-- n is the nucleus, p and last are its passes.
use Rattle.std.specs.Prelude.{ℕ, ◌≡◌, ◌+◌, true, List, [], ◌∷◌, length}
use Rattle.law_network.specs.Calls.{first_actor}
use Rattle.law_closing.specs.Actors.{AreIn}
use Rattle.chorus_net.specs.declared.closed.Closed.{Closed}
use Rattle.chorus_nucleus.specs.declared.nucleus.Nucleus.{Nucleus}
use Rattle.chorus_nucleus.specs.declared.pass.Pass.{Pass}
use Rattle.chorus_nucleus.specs.Passes.{caller_of, known, layout_of, IsPassOf}
use Rattle.chorus_nucleus.specs.Calls.{gave}
use Rattle.chorus_crew.specs.declared.handler.Handled.{Handled}
use Rattle.chorus_crew.specs.Crews.{AreHandled}
use Rattle.law_crews.specs.Crewed.{IsSettledAt}
use Rattle.chorus_run.specs.Threads.{IsClosedBy}
use Rattle.chorus_show.specs.declared.status.Status.{Status}
use Rattle.chorus_show.specs.declared.status.Status.TheVariants.{Worn}
use Rattle.chorus_run.specs.declared.drawn_crew.draws.Tally.{Tally}
use Rattle.chorus_run.specs.DrawnCrew.Names.{crew_pairs}
use Rattle.chorus_run.specs.DrawnCrew.Value.{message_value}
use Rattle.chorus_run.specs.DrawnCrew.Sends.{tally}
use Rattle.chorus_run.specs.DrawnCrew.Filling.{crew_commands}

-- it is the pass of the nucleus that draws the numbers, with a note of each other pass that was drawn
pub record HasAllNotes (n : Nucleus) (p : Pass) : Type 0 where
  pub pass : IsPassOf n p
  pub keeper : (known p).keeper ≡ true
  pub ended : (known p).made ≡ length (known p).notes + 1

-- Seat 0 made the ports and sent, till nothing was left. Then the passes of the crew came, those of seats 1 to 8 for
-- the ports in their order, which are retired into it: each took what waited in its port, above the clock that seat 0
-- had, and the numbers are those of its takes.
pub record HasCrewed (n : Nucleus) (first commands : ℕ) (handled : List Handled) (p : Pass) : Type 0 where
  pub of_nucleus : IsPassOf n p
  pub seat : (known p).seat ≡ 0
  pub performed : gave (known p) ≡ crew_commands first commands
  pub within : AreIn first_actor (known p).mine
  pub ended : (known p).made ≡ length (known p).notes + 1
  pub before : Pass
  pub was : IsPassOf n before
  pub settled : IsSettledAt (layout_of n) (known before) (known p)
  pub handled_is : AreHandled message_value (layout_of n) (known p) (caller_of before).last 1 crew_pairs (known p).notes
      handled

pub record IsTallied (t : Tally) (h : Handled) : Type 0 where
  pub count : h.count ≡ t.count
  pub total : h.total ≡ t.total

-- what was handled at each port, from that of site s on, is what was sent to it and found room
abbrev pub AreTallied : ℕ → ℕ → ℕ → List Handled → Type 0
AreTallied first commands s [] = Unit {0}
AreTallied first commands s (h ∷ handled) =
    IsTallied (tally first commands s) h × AreTallied first commands (s + 1) handled

-- the nucleus was closed by the pass into which the crew's were retired, and the crew counted what was sent
pub record HasTaken (n : Nucleus) (first commands : ℕ) (closed : Closed) : Type 0 where
  pub last : Pass
  pub closes : IsClosedBy n last closed
  pub handled : List Handled
  pub crewed : HasCrewed n first commands handled last
  pub tallied : AreTallied first commands 1 handled

-- where a clock was worn it was closed so far
abbrev pub TakesUnless : Nucleus → ℕ → ℕ → Status → Closed → Type 0
TakesUnless n first commands (Worn clock) closed = (last : Pass) × IsClosedBy n last closed
TakesUnless n first commands status closed = HasTaken n first commands closed
