-- The promise of a check.
-- c is a scenario, k is a claim, e what a search came to, j what was found of a claim, most is how many events may be carried
-- out, ms and os are moves, the latest first.
use Rattle.std.specs.Prelude.{ℕ, ◌≡◌, ◌<◌, ◌≤◌, ◌⊎◌, cond, if◌then◌else◌, true, false, List, [], ◌++◌, length, map, reverse, None, Some, slice_get}
use Rattle.chorus_ui.specs.Layout.{IsLayout}
use Rattle.law_explore.specs.declared.moves.Move.{Move}
use Rattle.law_explore.specs.Races.{IsWhole, replaying}
use Rattle.law_explore.specs.Search.{IsHistory}
use Rattle.law_replay.specs.Shown.{race_of, with_schedule, IsPlayed}
use Rattle.chorus_claims.specs.Pieces.{Claim, meets}
use Rattle.chorus_scene.specs.Limits.{Keeps}
use Rattle.chorus_scene.specs.Scene.{Scene}
use Rattle.chorus_scene.specs.declared.scenario.Step.{Step}
use Rattle.chorus_show.specs.declared.status.Status.{Status}
use Rattle.chorus_net.specs.declared.closed.Closed.{Closed}
use Rattle.chorus_net.specs.Closing.{IsClosed}
use Rattle.chorus_replay.specs.Laws.{worn_clock}
use Rattle.explore_report.specs.declared.explored.Explored.{Explored}
use Rattle.explore_report.specs.declared.judgements.Judgement.{Judgement}
use Rattle.explore_report.specs.declared.judgements.Judgement.TheVariants.{Met, Failed}
use Rattle.chorus_explore.specs.Events.{CarriesOut}
use Rattle.chorus_explore.specs.Searches.{IsLong}
use Rattle.chorus_explore.specs.Stages.{facts_at, position}

-- what is said of a claim: the moves do not meet it, and the bound is a number of moves
pub data Verdict : Type 0 where
  Holds : Verdict
  Fails : (moves : List Move) → Verdict
  Open : (bound : ℕ) → Verdict

-- the claim is asked there: at the end of a schedule, or at each moment of one
abbrev pub IsAsked : Scene → Claim → List Move → Type 0
IsAsked c k ms = cond k.throughout (IsHistory (replaying (race_of c)) ms) (IsWhole (race_of c) ms)

-- Wherever it is asked the claim is met; or it is asked where these moves lead and is not met there, and is wherever fewer
-- lead; or it is met wherever fewer moves lead than the bound.
abbrev pub Judged : Scene → Claim → Verdict → Type 0
Judged c k Holds = (ms : List Move) → IsAsked c k ms → meets k (facts_at c ms) ≡ true
Judged c k (Fails ms) =
    IsAsked c k ms × (meets k (facts_at c ms) ≡ false)
    × ((os : List Move) → IsAsked c k os → length os < length ms → meets k (facts_at c os) ≡ true)
Judged c k (Open d) = (ms : List Move) → IsAsked c k ms → length ms < d → meets k (facts_at c ms) ≡ true

-- what a search found, in these words
abbrev pub verdict_of : Explored → Judgement → Verdict
verdict_of e (Failed moves text) = Fails (reverse moves.items)
verdict_of e Met = if e.is_cut then Open e.bound else Holds

abbrev pub verdicts_of : Explored → List Verdict
verdicts_of e = map (verdict_of e) e.judged.items

-- the lines where a schedule leads that does not meet a claim, and those that were kept of it
abbrev pub facts_behind : Scene → Verdict → List ℕ
facts_behind c Holds = []
facts_behind c (Fails ms) = facts_at c ms
facts_behind c (Open d) = []

abbrev pub facts_in : Judgement → List ℕ
facts_in Met = []
facts_in (Failed moves text) = text.items

-- Each claim is judged, and the lines of those that fail are where their schedules lead. As many moves as are told were
-- carried out. A claim is open only where as many were carried out as were asked for, or where there is a history of as
-- many moves as a schedule may have, and more may come.
pub record Checks (c : Scene) (claims : List Claim) (most : ℕ) (e : Explored) : Type 0 where
  pub many : length (verdicts_of e) ≡ length claims
  pub judged : (i : ℕ) (k : Claim) (v : Verdict) → slice_get claims i ≡ Some k → slice_get (verdicts_of e) i ≡ Some v →
      Judged c k v
  pub facts : map facts_in e.judged.items ≡ map (facts_behind c) (verdicts_of e)
  pub events : (e.events ≤ most) × CarriesOut true (race_of c) e
  pub open_by : (i d : ℕ) → slice_get (verdicts_of e) i ≡ Some (Open d) → (e.events ≡ most) ⊎ IsLong c

-- What a replay comes to.

-- the history meets the claim at its end, and, where that is asked at each moment, at each on its way
pub record IsMetAlong (c : Scene) (k : Claim) (ms : List Move) : Type 0 where
  pub at_end : meets k (facts_at c ms) ≡ true
  pub on_the_way : k.throughout ≡ true → (more os : List Move) → ms ≡ more ++ os → meets k (facts_at c os) ≡ true

-- A claim that holds is met by every replay: whatever schedule the scenario is given, its replay, unless a clock is worn,
-- closes the network of a whole history that meets the claim, also along its way where it is asked at each moment.
abbrev pub ReplaysMeetClaims : Type 0
ReplaysMeetClaims =
    (c : Scene) (steps : List Step) (k : Claim) (status : Status) (closed : Closed) → IsLayout c.layout →
    Keeps (record c { schedule = steps }) → Judged c k Holds →
    IsPlayed (record c { schedule = steps }) status closed → worn_clock status ≡ None →
    (ms : List Move) × (IsWhole (race_of c) ms × IsClosed (position c ms).net closed × IsMetAlong c k ms)

-- A claim is not met where its moves lead. They are its schedule: what that is replayed to, which is the network that they
-- lead to where the claim is asked at ends alone, and else that of a whole history that goes on from them.
pub record IsShownFailing (c : Scene) (k : Claim) (ms : List Move) (closed : Closed) : Type 0 where
  pub unmet : meets k (facts_at c ms) ≡ false
  pub at_the_end : k.throughout ≡ false → IsClosed (position c ms).net closed
  pub goes_on : Keeps (with_schedule ms c) →
      (more : List Move) × (IsWhole (race_of c) (more ++ ms) × IsClosed (position c (more ++ ms)).net closed)

-- So it is of the schedule of a claim that fails, whether it was found among all or drawn, as the schedule of the scenario, unless
-- a clock is worn.
abbrev pub FailuresAreReplayed : Type 0
FailuresAreReplayed =
    (c : Scene) (k : Claim) (ms : List Move) (status : Status) (closed : Closed) → IsLayout c.layout → Keeps c →
    IsAsked c k ms → meets k (facts_at c ms) ≡ false →
    IsPlayed (with_schedule ms c) status closed → worn_clock status ≡ None →
    IsShownFailing c k ms closed
