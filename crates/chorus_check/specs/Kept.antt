-- What a check that ends with 0 means for every replay.
-- c is a scenario, most is how many events may be carried out, text is what is told.
use Rattle.std.specs.Prelude.{ℕ, ◌≡◌, true, false, List, None}
use Rattle.std.specs.List.{All}
use Rattle.chorus_ui.specs.Layout.{IsLayout}
use Rattle.law_explore.specs.declared.moves.Move.{Move}
use Rattle.chorus_claims.specs.Pieces.{Claim, meets}
use Rattle.chorus_scene.specs.Limits.{Keeps}
use Rattle.chorus_scene.specs.Scene.{Scene}
use Rattle.chorus_scene.specs.declared.scenario.Step.{Step}
use Rattle.chorus_show.specs.declared.status.Status.{Status}
use Rattle.chorus_net.specs.declared.closed.Closed.{Closed}
use Rattle.chorus_net.specs.Closing.{IsClosed}
use Rattle.chorus_replay.specs.Laws.{worn_clock}
use Rattle.law_replay.specs.Shown.{IsPlayed}
use Rattle.chorus_explore.specs.Checked.{IsAsked, IsMetAlong}
use Rattle.chorus_explore.specs.Stages.{facts_at, position}
use Rattle.chorus_check.specs.declared.checked.Checked.TheVariants.{Holds}
use Rattle.chorus_check.specs.declared.schedules.Schedules.TheVariants as Schedules
use Rattle.chorus_check.specs.Ends.{IsCheck}
use Rattle.chorus_check.specs.Words.{claims_of}

-- the history meets the claim, also along its way where it is asked at each moment, but where that only asks whether
-- something is possible
abbrev pub IsMetBy : Scene → List Move → Claim → Type 0
IsMetBy c ms k = k.possible ≡ false → IsMetAlong c k ms

-- some schedule shows what the claim asks to be possible
abbrev pub IsShownPossible : Scene → Claim → Type 0
IsShownPossible c k = k.possible ≡ true → (ms : List Move) × (IsAsked c k ms × (meets k (facts_at c ms) ≡ false))

-- Where all claims hold, what each asks to be possible is so, and every replay, whatever schedule
-- the scenario is given, closes, unless a clock is worn, the network of a whole history that meets
-- all the others.
abbrev pub HoldingClaimsAreMet : Type 0
HoldingClaimsAreMet =
    (c : Scene) (most : ℕ) (text : List ℕ) → IsCheck c (Schedules.All most) text Holds → IsLayout c.layout →
    All (IsShownPossible c) (claims_of c)
    × ((steps : List Step) (status : Status) (closed : Closed) → Keeps (record c { schedule = steps }) →
    IsPlayed (record c { schedule = steps }) status closed → worn_clock status ≡ None →
    (ms : List Move) × (IsClosed (position c ms).net closed × All (IsMetBy c ms) (claims_of c)))
