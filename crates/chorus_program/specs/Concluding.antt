-- What the words do where something is asked about a text, with what is found of it, and how the program ends by that.
-- A source and a sink are seen as `EndsReading` and `EndsWriting` see them; from and rest are the source, old and new
-- the sink, before and after.
use Rattle.std.specs.Prelude.{◌≡◌, ◌++◌, ℕ, List, [], Option, None, Some, Result, Ok, Err, codes, decimal}
use Rattle.chorus_show.specs.declared.status.Status.{Status}
use Rattle.chorus_show.specs.declared.status.Status.TheVariants.{Done}
use Rattle.chorus_show.specs.Faults.{fault_line, status_number}
use Rattle.chorus_judge.specs.declared.asked.Asked.{Asked}
use Rattle.chorus_judge.specs.declared.asked.Measure.TheVariants.{Promises, Rules}
use Rattle.chorus_judge.specs.declared.judgement.Judgement.{Judgement}
use Rattle.chorus_judge.specs.Judgements.{judgement_number}
use Rattle.chorus_check.specs.declared.checked.Checked.{Checked}
use Rattle.chorus_check.specs.declared.checked.Checked.TheVariants.{Fails, Holds, Open}
use Rattle.chorus_check.specs.declared.schedules.Schedules.{Schedules}
use Rattle.chorus_check.specs.declared.schedules.Schedules.TheVariants.{All, Drawn}
use Rattle.chorus_check.specs.Words.{checked_number}
use Rattle.chorus_nucleus.specs.declared.nucleus.Nucleus.{Nucleus}
use Rattle.chorus_report.specs.declared.finished.Finished.{Finished}
use Rattle.chorus_words.specs.declared.words.TheConstants.{CHECK_MOST}
use Rattle.chorus_words.specs.declared.words.Words.{Words}
use Rattle.chorus_words.specs.declared.words.Words.TheVariants as words
use Rattle.chorus_program.specs.declared.conclusion.Conclusion.{Conclusion}
use Rattle.chorus_program.specs.declared.conclusion.Verdict.{Verdict}
use Rattle.chorus_program.specs.declared.conclusion.Verdict.TheVariants as verdicts
use Rattle.chorus_program.specs.declared.inquiries.Inquiry.{Inquiry}
use Rattle.chorus_program.specs.declared.inquiries.Inquiry.TheVariants.{Judge, Check}
use Rattle.chorus_program.specs.Running.{asked_by, places_each, Does, EndsAsChecked, EndsAsJudge}
use Rattle.chorus_program.specs.Started.{DoesOnOwn}

-- what is asked about a text: what a journal is, for a layout or for the one that it names; or what is so of a scenario's claims. All other words ask
-- nothing
abbrev pub inquiry_in : Words → Option Inquiry
inquiry_in words.Judge = Some (Judge (asked_by Rules None))
inquiry_in (words.JudgeFor sites turns) = Some (Judge (asked_by Rules (Some (places_each sites turns))))
inquiry_in words.Promises = Some (Judge (asked_by Promises None))
inquiry_in (words.PromisesFor sites turns) = Some (Judge (asked_by Promises (Some (places_each sites turns))))
inquiry_in words.Check = Some (Check (All CHECK_MOST))
inquiry_in (words.CheckMost most) = Some (Check (All most))
inquiry_in (words.CheckDrawn count first) = Some (Check (Drawn count first))
inquiry_in asked = None

-- the end where nothing was found or closed
abbrev pub end_as : Status → Conclusion
end_as status = record { finished = record { status = status; closed = None }; verdict = None }

-- what a journal was judged to be, if it was
abbrev pub judged_in : Result Judgement Status → Option Verdict
judged_in (Ok judgement) = Some (verdicts.Judged judgement)
judged_in (Err status) = None

-- what a check came to, if there was one
abbrev pub checked_in : Result Checked Status → Option Verdict
checked_in (Ok checked) = Some (verdicts.Checked checked)
checked_in (Err status) = None

-- this was found of the journal that was read, and it is what the journal was judged to be
pub record ConcludesAsJudge (asked : Asked) (conclusion : Conclusion)
    (left rest old new : Option (List ℕ)) : Type 0 where
  pub given : Result Judgement Status
  pub verdict : conclusion.verdict ≡ judged_in given
  pub ends : EndsAsJudge asked given conclusion.finished left rest old new

-- this was found of the claims of the scenario that was read, and it is what the check came to
pub record ConcludesAsCheck {S K : Type 0} (schedules : Schedules) (conclusion : Conclusion)
    (left : S → Option (List ℕ)) (faults : S → ℕ) (reliable : S → Type 0) (from rest : S)
    (held : K → Option (List ℕ)) (failures : K → ℕ) (old new : K) : Type 0 where
  pub given : Result Checked Status
  pub verdict : conclusion.verdict ≡ checked_in given
  pub ends : EndsAsChecked schedules given conclusion.finished left faults reliable from rest held failures old new

abbrev pub Answers : {S K : Type 0} → Inquiry → Conclusion
    → (S → Option (List ℕ)) → (S → ℕ) → (S → Type 0) → S → S
    → (K → Option (List ℕ)) → (K → ℕ) → K → K → Type 0
Answers (Judge asked) conclusion left faults reliable from rest held failures old new =
    ConcludesAsJudge asked conclusion (left from) (left rest) (held old) (held new)
Answers (Check schedules) conclusion left faults reliable from rest held failures old new =
    ConcludesAsCheck schedules conclusion left faults reliable from rest held failures old new

-- what is asked is answered; where nothing is, nothing is found, and so it ends
abbrev pub ConcludesBy : {S K : Type 0} → Option Inquiry → (Finished → Type 0) → Conclusion
    → (S → Option (List ℕ)) → (S → ℕ) → (S → Type 0) → S → S
    → (K → Option (List ℕ)) → (K → ℕ) → K → K → Type 0
ConcludesBy (Some i) Finishes conclusion left faults reliable from rest held failures old new =
    Answers i conclusion left faults reliable from rest held failures old new
ConcludesBy None Finishes conclusion left faults reliable from rest held failures old new =
    (conclusion.verdict ≡ None) × Finishes conclusion.finished

-- how the program ends by the words, with this nucleus
abbrev pub Concludes : {S K : Type 0} → Nucleus → Words → Conclusion
    → (S → Option (List ℕ)) → (S → ℕ) → (S → Type 0) → S → S
    → (K → Option (List ℕ)) → (K → ℕ) → K → K → Type 0
Concludes n asked conclusion left faults reliable from rest held failures old new =
    ConcludesBy (inquiry_in asked)
    (λ finished. Does n asked finished left faults reliable from rest held failures old new)
    conclusion left faults reliable from rest held failures old new

-- and on what is started for them
abbrev pub ConcludesOnOwn : {S K : Type 0} → Words → Conclusion
    → (S → Option (List ℕ)) → (S → ℕ) → (S → Type 0) → S → S
    → (K → Option (List ℕ)) → (K → ℕ) → K → K → Type 0
ConcludesOnOwn asked conclusion left faults reliable from rest held failures old new =
    ConcludesBy (inquiry_in asked)
    (λ finished. DoesOnOwn asked finished left faults reliable from rest held failures old new)
    conclusion left faults reliable from rest held failures old new

-- The exit status: where all was done, that of what was found, if anything was.

abbrev pub verdict_number : Verdict → ℕ
verdict_number (verdicts.Judged judgement) = judgement_number judgement
verdict_number (verdicts.Checked checked) = checked_number checked

abbrev pub exit_number : Status → Option Verdict → ℕ
exit_number Done (Some verdict) = verdict_number verdict
exit_number status verdict = status_number status

-- The line on standard error: of a claim that does not hold, or that of the status.

abbrev pub claim_line : ℕ → List ℕ → List ℕ
claim_line claim found = (codes "chorus: claim " ++ decimal claim) ++ found

abbrev pub verdict_line : Verdict → List ℕ
verdict_line (verdicts.Checked (Fails claim)) = claim_line claim (codes " fails\n")
verdict_line (verdicts.Checked (Open claim)) = claim_line claim (codes " open\n")
verdict_line (verdicts.Checked Holds) = []
verdict_line (verdicts.Judged judgement) = []

abbrev pub end_line : Status → Option Verdict → List ℕ
end_line Done (Some verdict) = verdict_line verdict
end_line status verdict = fault_line status
