-- How a check between a source and a sink ends.
-- A source and a sink are seen as `EndsAsCheck` sees them.
use Rattle.std.proofs.Common.{ℕ, ◌≡◌, ◌⊎◌, List, Option, Result, Ok, Err, inl, inr, refl, sym, subst}
use Rattle.chorus_io.specs.Count.{Rose}
use Rattle.chorus_ui.specs.declared.layout.Layout.{Layout}
use Rattle.chorus_report.specs.Ending.{EndsReading}
use Rattle.chorus_report.specs.Output.{EndsUnread, GivesUp, Writes}
use Rattle.chorus_report.specs.Reading.{IsGiven}
use Rattle.chorus_scene.specs.Scene.{Scene}
use Rattle.chorus_show.specs.declared.status.Status.{Status}
use Rattle.chorus_show.specs.declared.status.Status.TheVariants as statuses
use Rattle.chorus_explore.specs.Stages.{MayWear}
use Rattle.chorus_explore.proofs.Entering.{wears-late}
use Rattle.chorus_check.specs.declared.checked.Checked.{Checked}
use Rattle.chorus_check.specs.declared.schedules.Schedules.{Schedules}
use Rattle.chorus_check.specs.Ends.{EndsAsCheck, IsCheck, status_of}

module _ {S K : Type 0} (l : Layout) (asked : Schedules) (left : S → Option (List ℕ)) (faults : S → ℕ) (reliable : S → Type 0) (from rest : S) (held : K → Option (List ℕ)) (failures : K → ℕ) where
  abbrev pub Reads : Status → Type 0
  Reads status = EndsReading l status left faults reliable from rest

  abbrev pub EndsSo : K → K → Result Checked Status → Type 0
  EndsSo old new end = EndsAsCheck l asked end left faults reliable from rest held failures old new

  -- before anything was gone over
  pub gave-up : (k : K) (status : Status) → GivesUp status → Reads status → EndsSo k k (Err status)
  gave-up k (statuses.Scenario line reason) h reads = record { reads = reads; checks = tt; write_fault = λ e. absurd (cc); unwritten = (λ a. absurd (cc), λ b. refl) }
  gave-up k statuses.ReadFault h reads = record { reads = reads; checks = tt; write_fault = λ e. absurd (cc); unwritten = (λ a. absurd (cc), λ b. refl) }
  gave-up k statuses.Memory h reads = record { reads = reads; checks = tt; write_fault = λ e. absurd (cc); unwritten = (λ a. absurd (cc), λ b. refl) }
  gave-up k statuses.Done h reads = absurd h
  gave-up k statuses.Usage h reads = absurd h
  gave-up k statuses.WriteFault h reads = absurd h
  gave-up k (statuses.Worn clock) h reads = absurd h

  module _ (c : Scene) (given : IsGiven l (left from) (Ok c)) (reads : (status : Status) → EndsUnread status → Reads status) where
    -- for want of memory, or a clock
    pub wanted : (k : K) → EndsSo k k (Err statuses.Memory)
    wanted k = record { reads = reads statuses.Memory tt; checks = tt; write_fault = λ e. absurd (cc); unwritten = (λ a. absurd (cc), λ b. refl) }

    pub wore : (k : K) (clock : ℕ) → MayWear c clock → EndsSo k k (Err (statuses.Worn clock))
    wore k clock wears = record {
      reads = reads (statuses.Worn clock) tt;
      checks = record { scene = c; given = given; wears = wears; worn = wears-late c clock wears };
      write_fault = λ e. absurd (cc);
      unwritten = (λ a. absurd (cc), λ b. refl);
    }

    -- by writing the text
    pub wrote : (old new : K) (end : Result Checked Status) (text : List ℕ) (checked : Checked) → IsCheck c asked text checked → (end ≡ Ok checked) ⊎ (end ≡ Err statuses.WriteFault)
        → Writes (status_of end) (held old) (held new) text → (end ≡ Err statuses.WriteFault → Rose (failures old) (failures new)) → EndsSo old new end
    wrote old new end text checked is (inl done) writes fault =
        let at_done = subst (λ (e : Result Checked Status). Writes (status_of e) (held old) (held new) text) done writes in
        subst (EndsSo old new) (sym done)
        (record {
          reads = reads statuses.Done tt;
          checks = record { scene = c; given = given; text = text; checked = checked; is = is; ends = inl refl; written = at_done };
          write_fault = λ e. absurd (cc);
          unwritten = tt;
        })
    wrote old new end text checked is (inr failed) writes fault =
        let at_fault = subst (λ (e : Result Checked Status). Writes (status_of e) (held old) (held new) text) failed writes in
        subst (EndsSo old new) (sym failed)
        (record {
          reads = reads statuses.WriteFault tt;
          checks = record { scene = c; given = given; text = text; checked = checked; is = is; ends = inr refl; written = at_fault };
          write_fault = λ e. fault failed;
          unwritten = (λ a. absurd (cc), λ b. absurd (b refl));
        })
