-- What the program's words do.
-- n is the nucleus that the program was handed. A source and a sink are seen as `EndsReading` and `EndsWriting` see
-- them; from and rest are the source, old and new the sink, before and after.
use Rattle.std.specs.Prelude.{◌≡◌, ◌≢◌, ◌≤◌, ◌⊎◌, ℕ, List, Option, None, Some, IfSome, IsSome, Result}
use Rattle.chorus_io.specs.Count.{Rose}
use Rattle.chorus_ui.specs.declared.layout.Layout.{Layout}
use Rattle.chorus_ui.specs.declared.limits.TheConstants.{CLOCK_LIMIT}
use Rattle.chorus_audit.specs.Output.{Prints, ReadsBy}
use Rattle.chorus_judge.specs.declared.asked.Asked.{Asked}
use Rattle.chorus_judge.specs.declared.asked.Measure.{Measure}
use Rattle.chorus_judge.specs.declared.asked.Measure.TheVariants.{Promises, Rules}
use Rattle.chorus_judge.specs.declared.judgement.Judgement.{Judgement}
use Rattle.chorus_judge.specs.Output.{Judges, status_of}
use Rattle.chorus_check.specs.declared.checked.Checked.{Checked}
use Rattle.chorus_check.specs.Ends as checking
use Rattle.chorus_check.specs.Ends.{EndsAsCheck}
use Rattle.chorus_check.specs.declared.schedules.Schedules.{Schedules}
use Rattle.chorus_check.specs.declared.schedules.Schedules.TheVariants.{All, Drawn}
use Rattle.chorus_picture.specs.Output as picture
use Rattle.chorus_picture.specs.Output.{Draws}
use Rattle.chorus_explore.specs.Ends.{EndsAsExplore}
use Rattle.chorus_lossy.specs.Output.{CarriesInput}
use Rattle.chorus_show.specs.declared.status.Status.{Status}
use Rattle.chorus_show.specs.declared.status.Status.TheVariants.{Done, Usage, ReadFault, WriteFault, Memory, Worn}
use Rattle.chorus_nucleus.specs.declared.nucleus.Nucleus.{Nucleus}
use Rattle.chorus_nucleus.specs.Passes.{layout_of}
use Rattle.chorus_report.specs.declared.finished.Finished.{Finished}
use Rattle.chorus_report.specs.Headline.{HasClock}
use Rattle.chorus_net.specs.Closing.{merge_of}
use Rattle.chorus_report.specs.Output.{HandsOut}
use Rattle.chorus_replay.specs.Ends.{EndsAsLoad, EndsAsReplay}
use Rattle.chorus_run.specs.Ends.{EndsAsRun}
use Rattle.chorus_run.specs.declared.drawn_crew.names.TheConstants.{CREW_PORTS}
use Rattle.chorus_run.specs.DrawnCrew.Ends.{EndsAsCrew}
use Rattle.chorus_words.specs.declared.words.TheConstants.{CHECK_MOST, EXPLORE_FIRST, EXPLORE_MOST}
use Rattle.chorus_words.specs.declared.words.Words.{Words}
use Rattle.chorus_words.specs.declared.words.Words.TheVariants as words
use Rattle.chorus_words.specs.Words.{Ask}
use Rattle.chorus_program.specs.declared.running.TheConstants.{PROGRAM_SITES}

-- so many sites, with so many places each
abbrev pub places_each : ℕ → ℕ → Layout
places_each sites turns = record { sites = sites; turns = turns }

abbrev pub one_place_each : ℕ → Layout
one_place_each sites = places_each sites 1

-- the sites of a replay
abbrev pub replay_layout : Layout
replay_layout = one_place_each PROGRAM_SITES

-- `run TURNS` is asked of a nucleus whose sites have so many places, and a crew of one with a site for each of its
-- ports
abbrev pub Suits : Nucleus → Words → Type 0
Suits n (words.RunOn turns) = turns ≡ (layout_of n).turns
Suits n (words.Crew first commands) = CREW_PORTS ≤ (layout_of n).sites
Suits n asked = Unit {0}

-- these words ask this of a program with the nucleus
abbrev pub AskOf : Nucleus → List (List ℕ) → Words → Type 0
AskOf n spelled asked = Ask spelled asked × Suits n asked

-- these words ask nothing of it
abbrev pub AskNothingOf : Nucleus → List (List ℕ) → Type 0
AskNothingOf n spelled = (asked : Words) → ¬ (AskOf n spelled asked)

-- words that ask nothing are Usage; want of memory for them is the one other ending
abbrev pub IsTurnedAway : Status → Type 0
IsTurnedAway status = (status ≡ Usage) ⊎ (status ≡ Memory)

-- nothing was closed, and the line of the verdict on what was read was written
pub record EndsAsAudit (l : Layout) (finished : Finished) (left rest old new : Option (List ℕ)) : Type 0 where
  pub closed : finished.closed ≡ None
  pub reads : ReadsBy finished.status left rest
  pub prints : Prints l finished.status left old new

-- a journal is judged by this measure, and for this layout, if one is asked for
abbrev pub asked_by : Measure → Option Layout → Asked
asked_by measure layout = record { measure = measure; layout = layout }

-- nothing was closed, this was found of the journal that was read, and the text that says it was written
pub record EndsAsJudge (asked : Asked) (given : Result Judgement Status) (finished : Finished)
    (left rest old new : Option (List ℕ)) : Type 0 where
  pub is : finished ≡ record { status = status_of given; closed = None }
  pub reads : ReadsBy (status_of given) left rest
  pub judges : Judges asked given left old new

-- nothing was closed, and the picture of what was read was written
pub record EndsAsPicture (l : Layout) (finished : Finished) (left rest old new : Option (List ℕ)) : Type 0 where
  pub closed : finished.closed ≡ None
  pub reads : picture.ReadsBy l finished.status left rest
  pub draws : Draws l finished.status left old new

-- nothing was closed, and what was read was carried
pub record EndsAsLossy (first : ℕ) (finished : Finished) (left rest old new : Option (List ℕ)) : Type 0 where
  pub closed : finished.closed ≡ None
  pub carries : CarriesInput first finished.status left rest old new

-- what was read stays
pub record EndsUnreadAsLoad {S K : Type 0} (first commands : ℕ) (finished : Finished) (from rest : S)
    (held : K → Option (List ℕ)) (failures : K → ℕ) (old new : K) : Type 0 where
  pub unread : rest ≡ from
  pub loads : EndsAsLoad first commands finished held failures old new

pub record EndsUnreadAsCrew {S K : Type 0} (n : Nucleus) (first commands : ℕ) (finished : Finished) (from rest : S)
    (held : K → Option (List ℕ)) (failures : K → ℕ) (old new : K) : Type 0 where
  pub unread : rest ≡ from
  pub crews : EndsAsCrew n first commands finished held failures old new

-- nothing was closed, and what may come of the scenario was written
pub record EndsAsExplored {S K : Type 0} (most first : ℕ) (finished : Finished) (left : S → Option (List ℕ)) (faults : S → ℕ)
    (reliable : S → Type 0) (from rest : S) (held : K → Option (List ℕ)) (failures : K → ℕ) (old new : K) : Type 0 where
  pub closed : finished.closed ≡ None
  pub explores : EndsAsExplore replay_layout most first finished.status left faults reliable from rest held failures old new

-- nothing was closed, this was found of the claims of the scenario that was read, and the text that says it was written
pub record EndsAsChecked {S K : Type 0} (schedules : Schedules) (given : Result Checked Status) (finished : Finished)
    (left : S → Option (List ℕ)) (faults : S → ℕ) (reliable : S → Type 0) (from rest : S)
    (held : K → Option (List ℕ)) (failures : K → ℕ) (old new : K) : Type 0 where
  pub is : finished ≡ record { status = checking.status_of given; closed = None }
  pub checks : EndsAsCheck replay_layout schedules given left faults reliable from rest held failures old new

-- the layout of the nucleus that is started for what is asked: of so many places for each site as `run TURNS` asks, and
-- of one for `run` and a crew. All else uses no nucleus, and one thread does it
abbrev pub layout_asked : Words → Option Layout
layout_asked words.Run = Some (places_each PROGRAM_SITES 1)
layout_asked (words.RunOn turns) = Some (places_each PROGRAM_SITES turns)
layout_asked (words.Crew first commands) = Some (places_each PROGRAM_SITES 1)
layout_asked asked = None

-- what the words do that use no nucleus; no other words are done so
abbrev pub DoesOnOneThread : {S K : Type 0} → Words → Finished
    → (S → Option (List ℕ)) → (S → ℕ) → (S → Type 0) → S → S
    → (K → Option (List ℕ)) → (K → ℕ) → K → K → Type 0
DoesOnOneThread words.Replay finished left faults reliable from rest held failures old new =
    EndsAsReplay replay_layout finished left faults reliable from rest held failures old new
DoesOnOneThread (words.Load first commands) finished left faults reliable from rest held failures old new =
    EndsUnreadAsLoad first commands finished from rest held failures old new
DoesOnOneThread (words.Audit sites turns) finished left faults reliable from rest held failures old new =
    EndsAsAudit (places_each sites turns) finished (left from) (left rest) (held old) (held new)
DoesOnOneThread words.Judge finished left faults reliable from rest held failures old new =
    (given : Result Judgement Status)
    × EndsAsJudge (asked_by Rules None) given finished (left from) (left rest) (held old) (held new)
DoesOnOneThread (words.JudgeFor sites turns) finished left faults reliable from rest held failures old new =
    (given : Result Judgement Status)
    × EndsAsJudge (asked_by Rules (Some (places_each sites turns))) given finished (left from) (left rest)
    (held old) (held new)
DoesOnOneThread words.Promises finished left faults reliable from rest held failures old new =
    (given : Result Judgement Status)
    × EndsAsJudge (asked_by Promises None) given finished (left from) (left rest) (held old) (held new)
DoesOnOneThread (words.PromisesFor sites turns) finished left faults reliable from rest held failures old new =
    (given : Result Judgement Status)
    × EndsAsJudge (asked_by Promises (Some (places_each sites turns))) given finished (left from) (left rest)
    (held old) (held new)
DoesOnOneThread (words.Picture sites turns) finished left faults reliable from rest held failures old new =
    EndsAsPicture (places_each sites turns) finished (left from) (left rest) (held old) (held new)
DoesOnOneThread (words.Lossy first) finished left faults reliable from rest held failures old new =
    EndsAsLossy first finished (left from) (left rest) (held old) (held new)
DoesOnOneThread words.Explore finished left faults reliable from rest held failures old new =
    EndsAsExplored EXPLORE_MOST EXPLORE_FIRST finished left faults reliable from rest held failures old new
DoesOnOneThread (words.ExploreMost most) finished left faults reliable from rest held failures old new =
    EndsAsExplored most EXPLORE_FIRST finished left faults reliable from rest held failures old new
DoesOnOneThread (words.ExploreFrom most first) finished left faults reliable from rest held failures old new =
    EndsAsExplored most first finished left faults reliable from rest held failures old new
DoesOnOneThread words.Check finished left faults reliable from rest held failures old new =
    (given : Result Checked Status)
    × EndsAsChecked (All CHECK_MOST) given finished left faults reliable from rest held failures old new
DoesOnOneThread (words.CheckMost most) finished left faults reliable from rest held failures old new =
    (given : Result Checked Status)
    × EndsAsChecked (All most) given finished left faults reliable from rest held failures old new
DoesOnOneThread (words.CheckDrawn count first) finished left faults reliable from rest held failures old new =
    (given : Result Checked Status)
    × EndsAsChecked (Drawn count first) given finished left faults reliable from rest held failures old new
DoesOnOneThread asked finished left faults reliable from rest held failures old new = ⊥

-- what the words do
abbrev pub Does : {S K : Type 0} → Nucleus → Words → Finished
    → (S → Option (List ℕ)) → (S → ℕ) → (S → Type 0) → S → S
    → (K → Option (List ℕ)) → (K → ℕ) → K → K → Type 0
Does n words.Run finished left faults reliable from rest held failures old new =
    EndsAsRun n finished left faults reliable from rest held failures old new
Does n (words.RunOn turns) finished left faults reliable from rest held failures old new =
    EndsAsRun n finished left faults reliable from rest held failures old new
Does n (words.Crew first commands) finished left faults reliable from rest held failures old new =
    EndsUnreadAsCrew n first commands finished from rest held failures old new
Does n asked finished left faults reliable from rest held failures old new =
    DoesOnOneThread asked finished left faults reliable from rest held failures old new

-- what was closed has an entry of this clock, which is at least 2^62
abbrev pub IsWornAt : ℕ → Finished → Type 0
IsWornAt clock finished = (CLOCK_LIMIT ≤ clock) × IfSome finished.closed (λ closed. HasClock clock (merge_of closed))

-- Whatever the words are: a fault has its count, a clock that was worn its entry; without a fault of a source that has
-- none its count stays, and want of memory hides no fault; what was not to be written was not; and only what was
-- written, or was to be, or stopped for a clock, has closed something.
pub record EndsWithCause {S K : Type 0} (finished : Finished) (faults : S → ℕ) (reliable : S → Type 0) (from rest : S)
    (failures : K → ℕ) (old new : K) : Type 0 where
  pub read_fault : finished.status ≡ ReadFault → Rose (faults from) (faults rest)
  pub no_fault : reliable from → faults rest ≡ faults from
  pub steady : finished.status ≡ Memory → faults rest ≡ faults from
  pub write_fault : finished.status ≡ WriteFault → Rose (failures old) (failures new)
  pub worn : (clock : ℕ) → finished.status ≡ Worn clock → IsWornAt clock finished
  pub closed : IsSome finished.closed → HandsOut finished.status
  pub unwritten : finished.status ≢ Done → finished.status ≢ WriteFault → new ≡ old
