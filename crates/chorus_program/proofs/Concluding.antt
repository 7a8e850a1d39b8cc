-- The program's end where something may be asked about a text.
use Rattle.std.proofs.Common.{◌≡◌, ◌≢◌, ◌∙◌, ◌≤◌, ℕ, List, Option, None, Some, IfErr, Result, Ok, Err, refl, sym, ap, subst}
use Rattle.std.proofs.lemmas.Bool.{false≢true}
use Rattle.chorus_io.specs.Count.{Rose}
use Rattle.chorus_ui.specs.declared.layout.Layout.{Layout}
use Rattle.chorus_ui.specs.declared.limits.TheConstants.{CLOCK_LIMIT}
use Rattle.chorus_show.specs.declared.status.Status.{Status}
use Rattle.chorus_show.specs.declared.status.Status.TheVariants.{Done, Memory, ReadFault, WriteFault, Worn}
use Rattle.chorus_audit.specs.Output.{ReadsBy}
use Rattle.chorus_judge.specs.declared.judgement.Judgement.{Judgement}
use Rattle.chorus_judge.specs.Output.{status_of}
use Rattle.chorus_check.specs.declared.checked.Checked.{Checked}
use Rattle.chorus_check.specs.Ends as checking
use Rattle.chorus_check.specs.Ends.{ChecksBy, EndsAsCheck}
use Rattle.chorus_check.specs.declared.schedules.Schedules.{Schedules}
use Rattle.chorus_nucleus.specs.declared.nucleus.Nucleus.{Nucleus}
use Rattle.chorus_report.specs.declared.finished.Finished.{Finished}
use Rattle.chorus_words.specs.declared.words.Words.{Words}
use Rattle.chorus_words.specs.declared.words.Words.TheVariants as words
use Rattle.chorus_program.specs.declared.conclusion.Conclusion.{Conclusion}
use Rattle.chorus_program.specs.declared.inquiries.Inquiry.{Inquiry}
use Rattle.chorus_program.specs.declared.inquiries.Inquiry.TheVariants.{Judge, Check}
use Rattle.chorus_program.specs.Concluding.{end_as, inquiry_in, Answers, Concludes, ConcludesBy, ConcludesOnOwn}
use Rattle.chorus_program.specs.Running.{replay_layout, Does, EndsAsChecked, EndsWithCause}
use Rattle.chorus_program.specs.Started.{DoesOnOwn}
use Rattle.chorus_program.proofs.Doing.{checked-no-usage, checked-none, does-none, judged-none, judged-no-usage, no-usage, own-no-usage, own-none}

-- The causes of a judgement.

module _ {S K : Type 0} (faults : S → ℕ) (reliable : S → Type 0) (from rest : S) (failures : K → ℕ) (old new : K) where
  done-causes : (reliable from → faults rest ≡ faults from) → EndsWithCause (record { status = Done; closed = None }) faults reliable from rest failures old new
  done-causes none = record {
    read_fault = λ e. absurd (let bad : Done ≡ ReadFault = e in cc);
    no_fault = none;
    steady = λ e. absurd (let bad : Done ≡ Memory = e in cc);
    write_fault = λ e. absurd (let bad : Done ≡ WriteFault = e in cc);
    worn = λ clock e. absurd (let bad : Done ≡ Worn clock = e in cc);
    closed = λ some. absurd (false≢true some);
    unwritten = λ a b. absurd (a refl);
  }

  module _ (left left₁ : Option (List ℕ)) where
    judgement-causes : (given : Result Judgement Status) → (given ≡ Err ReadFault → Rose (faults from) (faults rest)) → (given ≡ Err Memory → faults rest ≡ faults from) → (reliable from → faults rest ≡ faults from) → (given ≡ Err WriteFault → Rose (failures old) (failures new)) → ReadsBy (status_of given) left left₁ → IfErr given (λ status. (status ≢ Done) × (status ≢ WriteFault → new ≡ old)) → EndsWithCause (record { status = status_of given; closed = None }) faults reliable from rest failures old new
    judgement-causes (Ok judgement) read steady none write reads un = done-causes none
    judgement-causes (Err status) read steady none write reads un = record {
      read_fault = λ e. read (ap (λ (s : Status). Err s) e);
      no_fault = none;
      steady = λ e. steady (ap (λ (s : Status). Err s) e);
      write_fault = λ e. write (ap (λ (s : Status). Err s) e);
      worn = λ clock e. absurd (subst (λ (s : Status). ReadsBy s left left₁) e reads);
      closed = λ some. absurd (false≢true some);
      unwritten = λ a b. un.1 b;
    }

    pub causes-judged : (finished : Finished) (given : Result Judgement Status) → finished ≡ record { status = status_of given; closed = None } → (given ≡ Err ReadFault → Rose (faults from) (faults rest)) → (given ≡ Err Memory → faults rest ≡ faults from) → (reliable from → faults rest ≡ faults from) → (given ≡ Err WriteFault → Rose (failures old) (failures new)) → ReadsBy (status_of given) left left₁ → IfErr given (λ status. (status ≢ Done) × (status ≢ WriteFault → new ≡ old)) → EndsWithCause finished faults reliable from rest failures old new
    causes-judged finished given is read steady none write reads un =
        subst (λ (f : Finished). EndsWithCause f faults reliable from rest failures old new) (sym is) (judgement-causes given read steady none write reads un)

-- And of a check.

worn-checked : (l : Layout) (schedules : Schedules) (status : Status) (told old new : Option (List ℕ)) (clock : ℕ) → status ≡ Worn clock → ChecksBy l schedules (Err status) told old new → CLOCK_LIMIT ≤ clock
worn-checked l schedules status told old new clock e h = (subst (λ (s : Status). ChecksBy l schedules (Err s) told old new) e h).worn

module _ {S K : Type 0} (schedules : Schedules) (left : S → Option (List ℕ)) (faults : S → ℕ) (reliable : S → Type 0) (from rest : S) (held : K → Option (List ℕ)) (failures : K → ℕ) (old new : K) where
  check-causes : (given : Result Checked Status) → EndsAsCheck replay_layout schedules given left faults reliable from rest held failures old new → EndsWithCause (record { status = checking.status_of given; closed = None }) faults reliable from rest failures old new
  check-causes (Ok checked) h = done-causes faults reliable from rest failures old new h.reads.no_fault
  check-causes (Err status) h = record {
    read_fault = h.reads.read_fault;
    no_fault = h.reads.no_fault;
    steady = λ e. h.reads.steady (λ f. absurd (let bad : Memory ≡ ReadFault = sym e ∙ f in cc));
    write_fault = λ e. h.write_fault (ap (λ (s : Status). Err s) e);
    worn = λ clock e. (worn-checked replay_layout schedules status (left from) (held old) (held new) clock e h.checks, tt);
    closed = λ some. absurd (false≢true some);
    unwritten = λ a b. h.unwritten.1 b;
  }

  pub causes-checked : (finished : Finished) (given : Result Checked Status) → EndsAsChecked schedules given finished left faults reliable from rest held failures old new → EndsWithCause finished faults reliable from rest failures old new
  causes-checked finished given h =
      subst (λ (f : Finished). EndsWithCause f faults reliable from rest failures old new) (sym h.is) (check-causes given h.checks)

-- An answer, or what is done without one.

module _ {S K : Type 0} (Finishes : Finished → Type 0) (c : Conclusion) (left : S → Option (List ℕ)) (faults : S → ℕ) (reliable : S → Type 0) (from rest : S) (held : K → Option (List ℕ)) (failures : K → ℕ) (old new : K) where
  pub answers : (o : Option Inquiry) (i : Inquiry) → o ≡ Some i → Answers i c left faults reliable from rest held failures old new → ConcludesBy o Finishes c left faults reliable from rest held failures old new
  answers o i same h = subst (λ (x : Option Inquiry). ConcludesBy x Finishes c left faults reliable from rest held failures old new) (sym same) h

  pub answers-none : (o : Option Inquiry) (finished : Finished) → o ≡ None → c ≡ record { finished = finished; verdict = None } → Finishes finished → ConcludesBy o Finishes c left faults reliable from rest held failures old new
  answers-none o finished same is h =
      subst (λ (x : Option Inquiry). ConcludesBy x Finishes c left faults reliable from rest held failures old new) (sym same)
      (ap (λ (e : Conclusion). e.verdict) is, subst Finishes (sym (ap (λ (e : Conclusion). e.finished) is)) h)

  either-no-usage : (o : Option Inquiry) → ConcludesBy o Finishes c left faults reliable from rest held failures old new → (Finishes c.finished → c.finished.status ≡ Status.Usage → ⊥) → c.finished.status ≡ Status.Usage → ⊥
  either-no-usage (Some (Judge l)) h other is = judged-no-usage l h.given c.finished (left from) (left rest) (held old) (held new) h.ends is
  either-no-usage (Some (Check schedules)) h other is = checked-no-usage c.finished left faults reliable from rest held failures old new schedules h.given h.ends is
  either-no-usage None h other is = other h.1 is

module _ {S K : Type 0} (Finishes : Finished → Type 0) (c : Conclusion) (is : c ≡ end_as Memory) (left : S → Option (List ℕ)) (faults : S → ℕ) (reliable : S → Type 0) (from : S) (held : K → Option (List ℕ)) (failures : K → ℕ) (old : K) where
  ends-none : c.finished ≡ record { status = Memory; closed = None }
  ends-none = ap (λ (e : Conclusion). e.finished) is

  no-verdict : c.verdict ≡ None
  no-verdict = ap (λ (e : Conclusion). e.verdict) is

  either-none : (o : Option Inquiry) → (o ≡ None → Finishes c.finished) → ConcludesBy o Finishes c left faults reliable from from held failures old old
  either-none (Some (Judge l)) other = record { given = Err Memory; verdict = no-verdict; ends = judged-none l c.finished ends-none (left from) (held old) }
  either-none (Some (Check schedules)) other = record { given = Err Memory; verdict = no-verdict; ends = checked-none c.finished ends-none left faults reliable from held failures old schedules }
  either-none None other = (no-verdict, other refl)

module _ {S K : Type 0} (c : Conclusion) (left : S → Option (List ℕ)) (faults : S → ℕ) (reliable : S → Type 0) (from rest : S) (held : K → Option (List ℕ)) (failures : K → ℕ) (old new : K) where
  pub concludes-no-usage : (n : Nucleus) (asked : Words) → Concludes n asked c left faults reliable from rest held failures old new → c.finished.status ≡ Status.Usage → ⊥
  concludes-no-usage n asked h is =
      either-no-usage (λ finished. Does n asked finished left faults reliable from rest held failures old new) c left faults reliable from rest held failures old new (inquiry_in asked) h
      (λ d usage. no-usage c.finished left faults reliable from rest held failures old new n asked d usage) is

  pub own-concludes-no-usage : (asked : Words) → ConcludesOnOwn asked c left faults reliable from rest held failures old new → c.finished.status ≡ Status.Usage → ⊥
  own-concludes-no-usage asked h is =
      either-no-usage (λ finished. DoesOnOwn asked finished left faults reliable from rest held failures old new) c left faults reliable from rest held failures old new (inquiry_in asked) h
      (λ d usage. own-no-usage c.finished left faults reliable from rest held failures old new asked d usage) is

  pub concludes-same : (n : Nucleus) (asked other : Words) → asked ≡ other → Concludes n asked c left faults reliable from rest held failures old new → Concludes n other c left faults reliable from rest held failures old new
  concludes-same n asked other same h = subst (λ (w : Words). Concludes n w c left faults reliable from rest held failures old new) same h

  pub own-concludes-same : (asked other : Words) → asked ≡ other → ConcludesOnOwn asked c left faults reliable from rest held failures old new → ConcludesOnOwn other c left faults reliable from rest held failures old new
  own-concludes-same asked other same h = subst (λ (w : Words). ConcludesOnOwn w c left faults reliable from rest held failures old new) same h

  -- what is concluded is done
  pub concluded-is-done : (n : Nucleus) (asked : Words) → Concludes n asked c left faults reliable from rest held failures old new → Does n asked c.finished left faults reliable from rest held failures old new
  concluded-is-done n words.Judge h = (h.given, h.ends)
  concluded-is-done n (words.JudgeFor sites turns) h = (h.given, h.ends)
  concluded-is-done n words.Promises h = (h.given, h.ends)
  concluded-is-done n (words.PromisesFor sites turns) h = (h.given, h.ends)
  concluded-is-done n words.Check h = (h.given, h.ends)
  concluded-is-done n (words.CheckMost most) h = (h.given, h.ends)
  concluded-is-done n (words.CheckDrawn count first) h = (h.given, h.ends)
  concluded-is-done n asked h = h.1

-- Where there was no memory, nothing was read or written.

module _ {S K : Type 0} (c : Conclusion) (is : c ≡ end_as Memory) (left : S → Option (List ℕ)) (faults : S → ℕ) (reliable : S → Type 0) (from : S) (held : K → Option (List ℕ)) (failures : K → ℕ) (old : K) where
  pub concludes-none : (n : Nucleus) (asked : Words) → Concludes n asked c left faults reliable from from held failures old old
  concludes-none n asked =
      either-none (λ finished. Does n asked finished left faults reliable from from held failures old old) c is left faults reliable from held failures old (inquiry_in asked)
      (λ none. does-none c.finished (ap (λ (e : Conclusion). e.finished) is) left faults reliable from held failures old n asked)

  pub own-concludes-none : (asked : Words) → ConcludesOnOwn asked c left faults reliable from from held failures old old
  own-concludes-none asked =
      either-none (λ finished. DoesOnOwn asked finished left faults reliable from from held failures old old) c is left faults reliable from held failures old (inquiry_in asked)
      (λ none. own-none c.finished (ap (λ (e : Conclusion). e.finished) is) left faults reliable from held failures old asked)
