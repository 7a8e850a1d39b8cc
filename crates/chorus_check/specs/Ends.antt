-- How `check` ends.
-- A source and a sink are seen as `EndsReading` and `EndsWriting` of chorus_report see them; from
-- and rest are the source, old and new the sink, before and after; told is what the source tells,
-- asked are the schedules of which claims are asked.
use Rattle.std.specs.Prelude.{ℕ, ◌≡◌, ◌≢◌, ◌⊎◌, List, map, Option, Result, Ok, Err, IfErr}
use Rattle.chorus_io.specs.Count.{Rose}
use Rattle.chorus_ui.specs.declared.layout.Layout.{Layout}
use Rattle.chorus_report.specs.Ending.{EndsReading}
use Rattle.chorus_report.specs.Output.{Writes}
use Rattle.chorus_report.specs.Reading.{IsGiven}
use Rattle.chorus_scene.specs.Scene.{Scene}
use Rattle.chorus_show.specs.declared.status.Status.{Status}
use Rattle.chorus_show.specs.declared.status.Status.TheVariants.{Done, WriteFault, Worn}
use Rattle.explore_report.specs.declared.explored.Explored.{Explored}
use Rattle.chorus_claims.specs.Pieces.{Claim}
use Rattle.chorus_explore.specs.Checked.{Checks, facts_behind, verdicts_of}
use Rattle.chorus_explore.specs.Drawn.{ChecksDrawn}
use Rattle.chorus_explore.specs.Ends.{Wears}
use Rattle.chorus_check.specs.declared.checked.Checked.{Checked}
use Rattle.chorus_check.specs.declared.schedules.Schedules.{Schedules}
use Rattle.chorus_check.specs.declared.schedules.Schedules.TheVariants.{All, Drawn}
use Rattle.chorus_check.specs.Texts.{check_text}
use Rattle.chorus_check.specs.Words.{checked_of, claims_of}

-- what was found of the claims by these schedules
abbrev pub AreChecked : Scene → List Claim → Schedules → Explored → Type 0
AreChecked c ks (All most) e = Checks c ks most e
AreChecked c ks (Drawn count first) e = ChecksDrawn c ks count first e

-- The text says of each claim of the scenario what is so: by so many events, each with what is said
-- of it, and of each that a schedule does not meet that schedule and the facts where it leads. It
-- comes to this.
pub record IsCheck (c : Scene) (asked : Schedules) (text : List ℕ) (checked : Checked) : Type 0 where
  pub explored : Explored
  pub checks : AreChecked c (claims_of c) asked explored
  pub is : text ≡ check_text asked explored.events c.claims (claims_of c) (verdicts_of explored)
      (map (facts_behind c) (verdicts_of explored))
  pub comes : checked ≡ checked_of (claims_of c) (verdicts_of explored)

-- a check that was written is done
abbrev pub status_of : Result Checked Status → Status
status_of (Ok checked) = Done
status_of (Err status) = status

-- there is a scenario that the source gives, and a text that says of its claims what is so; all of
-- it was written, and the end is what it comes to, or a write failed
pub record TellsClaims (l : Layout) (asked : Schedules) (end : Result Checked Status)
    (told old new : Option (List ℕ)) : Type 0 where
  pub scene : Scene
  pub given : IsGiven l told (Ok scene)
  pub text : List ℕ
  pub checked : Checked
  pub is : IsCheck scene asked text checked
  pub ends : (end ≡ Ok checked) ⊎ (end ≡ Err WriteFault)
  pub written : Writes (status_of end) old new text

abbrev pub ChecksBy : Layout → Schedules → Result Checked Status → Option (List ℕ) → Option (List ℕ) → Option (List ℕ) → Type 0
ChecksBy l asked (Ok checked) told old new = TellsClaims l asked (Ok checked) told old new
ChecksBy l asked (Err WriteFault) told old new = TellsClaims l asked (Err WriteFault) told old new
ChecksBy l asked (Err (Worn clock)) told old new = Wears l told clock
ChecksBy l asked (Err _) told old new = Unit {0}

-- A scenario was read, for this layout; what is so of its claims was written, or a clock was worn
-- by a schedule of it.
pub record EndsAsCheck {S K : Type 0} (l : Layout) (asked : Schedules) (end : Result Checked Status)
    (left : S → Option (List ℕ)) (faults : S → ℕ) (reliable : S → Type 0) (from rest : S) (held : K → Option (List ℕ))
    (failures : K → ℕ) (old new : K) : Type 0 where
  pub reads : EndsReading l (status_of end) left faults reliable from rest
  pub checks : ChecksBy l asked end (left from) (held old) (held new)
  pub write_fault : end ≡ Err WriteFault → Rose (failures old) (failures new)
  pub unwritten : IfErr end (λ status. (status ≢ Done) × (status ≢ WriteFault → new ≡ old))
