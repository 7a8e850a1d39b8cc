-- How `explore` ends.
-- A source and a sink are seen as `EndsReading` and `EndsWriting` of chorus_report see them; from and rest are the
-- source, old and new the sink, before and after; told is what the source tells, most is how many events may be carried
-- out, first is from where schedules are drawn.
use Rattle.std.specs.Prelude.{ℕ, ◌≡◌, ◌≢◌, ◌≤◌, List, Option, Ok}
use Rattle.chorus_io.specs.Count.{Rose}
use Rattle.chorus_ui.specs.declared.layout.Layout.{Layout}
use Rattle.chorus_ui.specs.declared.limits.TheConstants.{CLOCK_LIMIT}
use Rattle.chorus_report.specs.Ending.{EndsReading}
use Rattle.chorus_report.specs.Output.{Writes}
use Rattle.chorus_report.specs.Reading.{IsGiven}
use Rattle.chorus_scene.specs.Scene.{Scene}
use Rattle.chorus_show.specs.declared.status.Status.{Status}
use Rattle.chorus_show.specs.declared.status.Status.TheVariants.{Done, WriteFault, Worn}
use Rattle.chorus_explore.specs.Explored.{IsExploration}
use Rattle.chorus_explore.specs.Stages.{MayWear}

-- there is a scenario that the source gives, and a text that tells what may come of it; of that the sink took what the
-- status says
pub record Tells (l : Layout) (most first : ℕ) (status : Status) (told old new : Option (List ℕ)) : Type 0 where
  pub scene : Scene
  pub given : IsGiven l told (Ok scene)
  pub text : List ℕ
  pub explored : IsExploration scene most first text
  pub written : Writes status old new text

-- there is a scenario that the source gives, and a schedule of it wears this clock
pub record Wears (l : Layout) (told : Option (List ℕ)) (clock : ℕ) : Type 0 where
  pub scene : Scene
  pub given : IsGiven l told (Ok scene)
  pub wears : MayWear scene clock
  pub worn : CLOCK_LIMIT ≤ clock

abbrev pub ExploresBy : Layout → ℕ → ℕ → Status → Option (List ℕ) → Option (List ℕ) → Option (List ℕ) → Type 0
ExploresBy l most first Done told old new = Tells l most first Done told old new
ExploresBy l most first WriteFault told old new = Tells l most first WriteFault told old new
ExploresBy l most first (Worn clock) told old new = Wears l told clock
ExploresBy l most first _ told old new = Unit {0}

-- A scenario was read, for this layout; what may come of it was written, or a clock was worn by a schedule of it.
pub record EndsAsExplore {S K : Type 0} (l : Layout) (most first : ℕ) (status : Status)
    (left : S → Option (List ℕ)) (faults : S → ℕ) (reliable : S → Type 0) (from rest : S) (held : K → Option (List ℕ))
    (failures : K → ℕ) (old new : K) : Type 0 where
  pub reads : EndsReading l status left faults reliable from rest
  pub explores : ExploresBy l most first status (left from) (held old) (held new)
  pub write_fault : status ≡ WriteFault → Rose (failures old) (failures new)
  pub unwritten : status ≢ Done → status ≢ WriteFault → new ≡ old
