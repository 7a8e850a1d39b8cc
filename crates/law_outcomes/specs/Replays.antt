-- What `explore` and `check` tell of a scenario, and what a reader finds in its replays.
-- c is a scenario, steps are the lines behind `schedule`, most is how many events may be carried out, text is what is
-- told, k is a claim, v what is said of it, ms and os are moves, the latest first, f is an outcome that was found, l a
-- layout, input and other are the bytes of two texts.
use Rattle.std.specs.Prelude.{ℕ, ◌≡◌, ◌<◌, ◌⊎◌, Bool, true, false, List, ◌++◌, length, map, reverse, None, Option, Some, slice_get}
use Rattle.std.specs.List.{All, Contains}
use Rattle.chorus_ui.specs.Layout.{IsLayout}
use Rattle.chorus_ui.specs.declared.layout.Layout.{Layout}
use Rattle.law_explore.specs.declared.moves.Move.{Move}
use Rattle.law_explore.specs.Races.{IsWhole}
use Rattle.law_moments.specs.Fronts.{AreFronts}
use Rattle.law_replay.specs.Shown.{race_of, step_of, IsPlayed}
use Rattle.chorus_claims.specs.Pieces.{Claim, meets}
use Rattle.chorus_scene.specs.Limits.{Keeps}
use Rattle.chorus_scene.specs.Scene.{Scene}
use Rattle.chorus_scene.specs.declared.scenario.Step.{Step}
use Rattle.chorus_show.specs.declared.status.Status.{Status}
use Rattle.chorus_show.specs.declared.status.Status.TheVariants.{Done}
use Rattle.chorus_show.specs.declared.stuck.Stuck.{Stuck}
use Rattle.chorus_net.specs.declared.closed.Closed.{Closed}
use Rattle.chorus_net.specs.Closing.{IsLeft, closed_journals}
use Rattle.chorus_replay.specs.Laws.{worn_clock}
use Rattle.chorus_replay.specs.Ordered.{Replays}
use Rattle.explore_report.specs.declared.findings.Finding.{Finding}
use Rattle.explore_report.specs.declared.explored.Explored.{Explored}
use Rattle.explore_report.specs.Findings.{texts_of}
use Rattle.chorus_explore.specs.Checked.{Checks, Verdict, Fails, Holds, Open, verdicts_of}
use Rattle.chorus_explore.specs.Ends.{Tells}
use Rattle.chorus_explore.specs.Explored.{IsExploration}
use Rattle.chorus_explore.specs.Stages.{position}
use Rattle.law_outcomes.specs.Closed.{IsOfWhole, IsReadOf, acts_in, facts_of_closed, moves_read, outcome_of_closed}

-- A replay of the scenario with these lines behind `schedule` closes this, and no clock is worn.
pub record IsReplay (c : Scene) (steps : List Step) (closed : Closed) : Type 0 where
  pub status : Status
  pub keeps : Keeps (record c { schedule = steps })
  pub played : IsPlayed (record c { schedule = steps }) status closed
  pub unworn : worn_clock status ≡ None

abbrev pub ReplaysAreHistories : Type 0
ReplaysAreHistories =
    (c : Scene) (steps : List Step) (closed : Closed) → IsLayout c.layout → IsReplay c steps closed → IsOfWhole c closed

-- Outcomes.

-- the texts of the outcomes that were found, and whether all with so many moves were
abbrev pub texts_in : Explored → List (List ℕ)
texts_in e = texts_of e.findings.items.items

abbrev pub AllAreFound : Explored → ℕ → Type 0
AllAreFound e moves = (e.is_cut ≡ false) ⊎ (moves < e.bound)

-- what a whole history comes to is among the outcomes that are told, where all such were found
abbrev pub WholesAreAmongOutcomes : Type 0
WholesAreAmongOutcomes =
    (c : Scene) (most first : ℕ) (text : List ℕ) (closed : Closed) → (told : IsExploration c most first text) → IsOfWhole c closed →
    AllAreFound told.explored (moves_read c closed) → Contains (texts_in told.explored) (outcome_of_closed c closed)

-- Where `explore` tells of all, the lines of every replay are among those that it tells; where it tells of `some N`,
-- those of every replay of fewer than N moves.
abbrev pub ReplaysAreAmongOutcomes : Type 0
ReplaysAreAmongOutcomes =
    (c : Scene) (most first : ℕ) (text : List ℕ) (steps : List Step) (closed : Closed) → IsLayout c.layout →
    (told : IsExploration c most first text) → IsReplay c steps closed → AllAreFound told.explored (moves_read c closed) →
    Contains (texts_in told.explored) (outcome_of_closed c closed)

-- the outcome is read in every replay of its schedule
abbrev pub IsSeen : Scene → Finding → Type 0
IsSeen c f =
    (closed : Closed) → IsReplay c (map step_of f.moves.items) closed → outcome_of_closed c closed ≡ f.text.items

-- And each outcome that it tells is that of a replay.
abbrev pub OutcomesAreOfReplays : Type 0
OutcomesAreOfReplays =
    (c : Scene) (most first : ℕ) (text : List ℕ) → IsLayout c.layout → Keeps c → (told : IsExploration c most first text) →
    All (IsSeen c) told.explored.findings.items.items

-- From bytes to bytes: where `explore` is done with one text, and `replay` with one that says the same but for its
-- schedule.
abbrev pub TextsAreAmongOutcomes : Type 0
TextsAreAmongOutcomes =
    (l : Layout) (most first : ℕ) (input other : List ℕ) (old new : Option (List ℕ)) (stuck : List Stuck) (status : Status)
    (closed : Closed) → IsLayout l → (told : Tells l most first Done (Some input) old new) →
    (replay : Replays l (Some other) stuck status closed) →
    replay.runs.scene ≡ record told.scene { schedule = replay.runs.scene.schedule } → worn_clock status ≡ None →
    AllAreFound told.explored.explored (moves_read told.scene closed) →
    Contains (texts_in told.explored.explored) (outcome_of_closed told.scene closed)

-- Claims.

-- What a claim says is so of the lines that a reader finds: whoever closes the network where these moves lead, they meet
-- the claim, or do not.
abbrev pub IsReadAs : Scene → Claim → Bool → List Move → Type 0
IsReadAs c k is_met ms =
    (closed : Closed) → IsLeft (position c ms).net closed → meets k (facts_of_closed c closed) ≡ is_met

-- And of each place its acts are the first ones of those that it has in what was closed: so a reader finds the moment in
-- that.
abbrev pub IsInFront : Scene → List Move → Closed → Type 0
IsInFront c ms closed =
    (moment : Closed) → IsLeft (position c ms).net moment →
    AreFronts (acts_in (closed_journals moment)) (acts_in (closed_journals closed))

-- Of what was closed, and of the history that comes to it, where it has so many moves: at its end, and, where the claim is
-- asked at each moment, at each on its way.
pub record IsSeenMet (c : Scene) (k : Claim) (IsAsked : ℕ → Type 0) (closed : Closed) : Type 0 where
  pub of_whole : IsOfWhole c closed
  pub at_end : IsAsked (moves_read c closed) → meets k (facts_of_closed c closed) ≡ true
  pub on_the_way : k.throughout ≡ true → (more os : List Move) → of_whole.moves ≡ more ++ os → IsAsked (length os) →
      IsReadAs c k true os × IsInFront c os closed

-- Of a schedule that shows that a claim fails: it is not met where the moves lead. A replay of them ends there where the
-- claim is asked at ends alone, and else goes on from there.
pub record IsSeenFailing (c : Scene) (k : Claim) (ms : List Move) : Type 0 where
  pub read : IsReadAs c k false ms
  pub at_end : k.throughout ≡ false → (closed : Closed) → IsReplay c (map step_of (reverse ms)) closed →
      meets k (facts_of_closed c closed) ≡ false
  pub on_the_way : (closed : Closed) → IsReplay c (map step_of (reverse ms)) closed →
      IsInFront c ms closed
      × ((more : List Move) × (IsWhole (race_of c) (more ++ ms) × IsReadOf c (more ++ ms) closed))

-- What holds is met by every replay; what is open, by every replay as far as fewer moves lead than the bound; and what
-- fails is not met by a replay of the schedule that is shown.
abbrev pub IsSeenOf : Scene → Claim → Verdict → Type 0
IsSeenOf c k Holds =
    (steps : List Step) (closed : Closed) → IsReplay c steps closed → IsSeenMet c k (λ (n : ℕ). Unit {0}) closed
IsSeenOf c k (Fails ms) = IsSeenFailing c k ms
IsSeenOf c k (Open bound) =
    (steps : List Step) (closed : Closed) → IsReplay c steps closed → IsSeenMet c k (λ (n : ℕ). n < bound) closed

-- so it is of each claim of a check
abbrev pub ChecksAreOfReplays : Type 0
ChecksAreOfReplays =
    (c : Scene) (claims : List Claim) (most : ℕ) (e : Explored) → IsLayout c.layout → Keeps c →
    Checks c claims most e → (i : ℕ) (k : Claim) (v : Verdict) → slice_get claims i ≡ Some k →
    slice_get (verdicts_of e) i ≡ Some v → IsSeenOf c k v
