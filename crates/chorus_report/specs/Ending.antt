-- How a call ends that reads a scenario, plays it, and writes what it played.
-- A source is seen by what is left of it, its count of faults, and whether no read will fail; a sink by what it holds
-- and its count.
use Rattle.std.specs.Prelude.{◌≡◌, ◌≢◌, ◌≤◌, ◌↔◌, ◌⊎◌, ℕ, List, Option, Some, None, IfSome, IsSome, Result, Ok, Err}
use Rattle.std.specs.declared.alloc.AllocError.{AllocError}
use Rattle.chorus_io.specs.Count.{Rose}
use Rattle.chorus_ui.specs.declared.layout.Layout.{Layout}
use Rattle.chorus_ui.specs.declared.limits.TheConstants.{CLOCK_LIMIT}
use Rattle.chorus_net.specs.declared.closed.Closed.{Closed}
use Rattle.chorus_show.specs.declared.status.Status.{Status}
use Rattle.chorus_show.specs.declared.status.Status.TheVariants.{Done, Usage, Scenario, ReadFault, WriteFault, Memory, Worn}
use Rattle.chorus_report.specs.declared.finished.Finished.{Finished}
use Rattle.chorus_report.specs.declared.played.Played.{Played}
use Rattle.chorus_scene.specs.Grammar.{read_scene}
use Rattle.chorus_report.specs.Reading.{ReadsText, IsGivenBy, IsRead, ReadsNoFurther, ReadsWithin, read_without_waits}
use Rattle.chorus_report.specs.Headline.{HasClock}
use Rattle.chorus_net.specs.Closing.{merge_of}
use Rattle.chorus_report.specs.Output.{Writes, HandsOut}

-- What was read of the source, by the status: never Usage; Scenario where it is read so that it is refused, with that
-- line and reason; ReadFault where the count rose, and with no other status did it rise; Memory where no more than the
-- limit was read, since what is longer is refused. But for ReadFault and Memory all was read.
pub record EndsReadingBy {S : Type 0} (reads : ReadsText) (l : Layout) (status : Status)
    (left : S → Option (List ℕ)) (faults : S → ℕ) (reliable : S → Type 0) (old new : S) : Type 0 where
  pub usage : status ≢ Usage
  pub scenario : (line reason : ℕ) → status ≡ Scenario line reason → IsGivenBy reads l (left old) (Err (line, reason))
  pub read_fault : status ≡ ReadFault → Rose (faults old) (faults new)
  pub steady : status ≢ ReadFault → faults new ≡ faults old
  pub no_fault : reliable old → faults new ≡ faults old
  pub read : status ≢ ReadFault → status ≢ Memory → IsRead (left old) (left new)
  pub memory : status ≡ Memory → ReadsWithin (left old) (left new)
  pub reads_at_most : ReadsNoFurther (left old) (left new)

-- of a call that takes each scenario of the grammar, and of one that takes no awaits
abbrev pub EndsReading : {S : Type 0} → Layout → Status → (S → Option (List ℕ)) → (S → ℕ) → (S → Type 0) → S → S → Type 0
EndsReading l status left faults reliable old new = EndsReadingBy read_scene l status left faults reliable old new

abbrev pub EndsReadingNoWait : {S : Type 0} → Layout → Status → (S → Option (List ℕ)) → (S → ℕ) → (S → Type 0) → S → S →
    Type 0
EndsReadingNoWait l status left faults reliable old new =
    EndsReadingBy read_without_waits l status left faults reliable old new

-- What was written of what was closed, by the status: WriteFault where the count rose; Worn with a clock of at least
-- 2^62 that an entry has; something was closed at Done, WriteFault and Worn alone. Of the text the sink took what the
-- status says.
pub record EndsWriting {K : Type 0} (text : List ℕ) (finished : Finished) (held : K → Option (List ℕ)) (faults : K → ℕ)
    (old new : K) : Type 0 where
  pub write_fault : finished.status ≡ WriteFault → Rose (faults old) (faults new)
  pub worn : (clock : ℕ) → finished.status ≡ Worn clock →
      (CLOCK_LIMIT ≤ clock) × IfSome finished.closed (λ closed. HasClock clock (merge_of closed))
  pub closed : IsSome finished.closed ↔ HandsOut finished.status
  pub unwritten : finished.status ≢ Done → finished.status ≢ WriteFault → new ≡ old
  pub prints : Writes finished.status (held old) (held new) text

-- What was played, and how it ends.

-- the clock that was worn, if one was, is at least 2^62, and an entry of what was closed has it
abbrev pub HasWorn : Played → Type 0
HasWorn played = (clock : ℕ) → played.worn ≡ Some clock →
    (CLOCK_LIMIT ≤ clock) × HasClock clock (merge_of played.closed)

-- it ends by a clock that was worn, else by writing
abbrev pub EndsBy : Option ℕ → Status → Type 0
EndsBy None status = (status ≡ Done) ⊎ (status ≡ WriteFault)
EndsBy (Some clock) status = status ≡ Worn clock

-- so much is so of what was closed, as it may end
abbrev pub EndsFor : (Status → Closed → Type 0) → Option ℕ → Closed → Type 0
EndsFor P None closed = P Done closed × P WriteFault closed
EndsFor P (Some clock) closed = P (Worn clock) closed

-- what was played was closed so, and ends so
pub record IsFinished (played : Result Played AllocError) (status : Status) (closed : Closed) : Type 0 where
  pub whole : Played
  pub is : played ≡ Ok whole
  pub closed_is : closed ≡ whole.closed
  pub ends : EndsBy whole.worn status
