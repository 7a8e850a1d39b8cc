-- What the words do, and each ending's cause.
use Rattle.std.proofs.Common.{◌≡◌, ◌≢◌, ◌∙◌, inl, inr, ℕ, [], List, Option, None, Some, IfSome, IsSome, refl, sym, ap, subst, arith, ◌≤◌, Err, Result}
use Rattle.std.proofs.KnownBytes.{Consumes-nil}
use Rattle.std.proofs.lemmas.Bool.{false≢true}
use Rattle.chorus_ui.specs.declared.layout.Layout.{Layout}
use Rattle.chorus_ui.specs.declared.limits.TheConstants.{CLOCK_LIMIT}
use Rattle.chorus_net.specs.declared.closed.Closed.{Closed}
use Rattle.chorus_explore.specs.Ends.{ExploresBy}
use Rattle.chorus_show.specs.declared.status.Status.{Status}
use Rattle.chorus_show.specs.declared.status.Status.TheVariants.{Done, Memory, ReadFault, WriteFault, Worn}
use Rattle.chorus_net.specs.Closing.{merge_of}
use Rattle.chorus_nucleus.specs.declared.nucleus.Nucleus.{Nucleus}
use Rattle.chorus_nucleus.specs.Passes.{layout_of}
use Rattle.chorus_report.specs.declared.finished.Finished.{Finished}
use Rattle.chorus_report.specs.Ending.{EndsReadingBy, EndsWriting}
use Rattle.chorus_report.specs.Headline.{HasClock}
use Rattle.chorus_report.specs.Output.{EndsUnread, summary_of, text_with}
use Rattle.chorus_report.specs.Reading.{ReadsText, ReadsWithin}
use Rattle.chorus_report.proofs.Ends.{ends-memory, gave-up-writes, none-closed, reads-as}
use Rattle.chorus_replay.specs.Ends.{EndsAsLoad, EndsAsReplay}
use Rattle.chorus_replay.specs.Load.{Loads}
use Rattle.chorus_replay.specs.Ordered.{Replays}
use Rattle.chorus_run.specs.Ends.{EndsAsRun, RunsTo}
use Rattle.chorus_run.specs.Threads.{HasAllPerformed, HasWornOf, IsOfNucleus}
use Rattle.chorus_audit.specs.Output.{Prints, ReadsBy}
use Rattle.chorus_judge.specs.declared.asked.Asked.{Asked}
use Rattle.chorus_judge.specs.declared.asked.Measure.TheVariants.{Promises, Rules}
use Rattle.chorus_judge.specs.declared.judgement.Judgement.{Judgement}
use Rattle.chorus_check.specs.declared.checked.Checked.{Checked}
use Rattle.chorus_run.specs.DrawnCrew.Ends.{EndsAsCrew}
use Rattle.chorus_run.specs.DrawnCrew.Text.{crew_text}
use Rattle.chorus_run.specs.DrawnCrew.Takes.{TakesUnless}
use Rattle.chorus_picture.specs.Output as picture
use Rattle.chorus_picture.specs.Output.{Draws}
use Rattle.chorus_lossy.specs.Output as lossy
use Rattle.chorus_lossy.specs.Output.{CarriesInput}
use Rattle.chorus_words.specs.declared.words.TheConstants.{CHECK_MOST, EXPLORE_FIRST, EXPLORE_MOST}
use Rattle.chorus_words.specs.declared.words.Words.{Words}
use Rattle.chorus_words.specs.declared.words.Words.TheVariants as words
use Rattle.chorus_program.specs.declared.running.TheConstants.{PROGRAM_SITES}
use Rattle.chorus_check.specs.declared.schedules.Schedules.{Schedules}
use Rattle.chorus_check.specs.declared.schedules.Schedules.TheVariants.{All, Drawn}
use Rattle.chorus_program.specs.Running.{asked_by, layout_asked, places_each, replay_layout, Does, DoesOnOneThread, EndsAsAudit, EndsAsChecked, EndsAsExplored, EndsAsJudge, EndsAsLossy, EndsAsPicture, EndsWithCause, Suits}
use Rattle.chorus_program.specs.Started.{DoesOnOwn, DoesOnStarted}

-- Causes.

module _ {S K : Type 0} (f : Finished) (left : S → Option (List ℕ)) (faults : S → ℕ) (reliable : S → Type 0) (from rest : S) (held : K → Option (List ℕ)) (failures : K → ℕ) (old new : K) where
  pub causes-of : {R : ReadsText} (l : Layout) (text : List ℕ) → EndsReadingBy R l f.status left faults reliable from rest → EndsWriting text f held failures old new → EndsWithCause f faults reliable from rest failures old new
  causes-of l text r w = record {
    read_fault = r.read_fault;
    no_fault = r.no_fault;
    steady = λ e. r.steady (λ f. absurd (let bad : Memory ≡ ReadFault = sym e ∙ f in cc));
    write_fault = w.write_fault;
    worn = w.worn;
    closed = w.closed.0;
    unwritten = w.unwritten;
  }

  pub causes-of-load : (text : List ℕ) → EndsUnread f.status → rest ≡ from → EndsWriting text f held failures old new → EndsWithCause f faults reliable from rest failures old new
  causes-of-load text ends same w = record {
    read_fault = λ e. absurd (subst EndsUnread e ends);
    no_fault = λ h. ap faults same;
    steady = λ e. ap faults same;
    write_fault = w.write_fault;
    worn = w.worn;
    closed = w.closed.0;
    unwritten = w.unwritten;
  }

-- what tells of a race has its causes
worn-explored : (l : Layout) (most first : ℕ) (status : Status) (told old new : Option (List ℕ)) (clock : ℕ) → status ≡ Worn clock → ExploresBy l most first status told old new → CLOCK_LIMIT ≤ clock
worn-explored l most first status told old new clock e h = (subst (λ (s : Status). ExploresBy l most first s told old new) e h).worn

pub causes-explored : {S K : Type 0} (most first : ℕ) (f : Finished) (left : S → Option (List ℕ)) (faults : S → ℕ) (reliable : S → Type 0) (from rest : S) (held : K → Option (List ℕ)) (failures : K → ℕ) (old new : K)
    → EndsAsExplored most first f left faults reliable from rest held failures old new → EndsWithCause f faults reliable from rest failures old new
causes-explored most first f left faults reliable from rest held failures old new h = record {
  read_fault = h.explores.reads.read_fault;
  no_fault = h.explores.reads.no_fault;
  steady = λ e. h.explores.reads.steady (λ f. absurd (let bad : Memory ≡ ReadFault = sym e ∙ f in cc));
  write_fault = h.explores.write_fault;
  worn = λ clock e. (worn-explored replay_layout most first f.status (left from) (held old) (held new) clock e h.explores.explores, subst (λ o. IfSome o (λ closed. HasClock clock (merge_of closed))) (sym h.closed) tt);
  closed = λ some. absurd (none-is-some f.closed h.closed some);
  unwritten = h.explores.unwritten;
}
  where
    none-is-some : (o : Option Closed) → o ≡ None → IsSome o → ⊥
    none-is-some o e some = false≢true (subst IsSome e some)

-- A judgement.

pub judged-none : (asked : Asked) (f : Finished) → f ≡ record { status = Memory; closed = None } → (left old : Option (List ℕ)) → EndsAsJudge asked (Err Memory) f left left old old
judged-none asked f is left old = record { is = is; reads = ([], (Consumes-nil left, omega arith)); judges = refl }

pub judged-no-usage : (asked : Asked) (given : Result Judgement Status) (f : Finished) (left rest old new : Option (List ℕ)) → EndsAsJudge asked given f left rest old new → f.status ≡ Status.Usage → ⊥
judged-no-usage asked given f left rest old new h is = subst (λ (s : Status). ReadsBy s left rest) (sym (ap (λ (x : Finished). x.status) h.is) ∙ is) h.reads

-- Where there was no memory, nothing was read or written.

module _ {K : Type 0} (f : Finished) (is : f ≡ record { status = Memory; closed = None }) (held : K → Option (List ℕ)) (failures : K → ℕ) (old : K) where
  writes-none : (text : List ℕ) → EndsWriting text f held failures old old
  writes-none text = gave-up-writes text Memory f held failures old old tt is refl

  pub loads-none : (first commands : ℕ) → EndsAsLoad first commands f held failures old old
  loads-none first commands = record {
    status = subst EndsUnread (sym (ap (λ (x : Finished). x.status) is)) tt;
    writes = writes-none (summary_of f.closed);
    loads = none-closed Memory f (Loads first commands) is;
  }

  pub crews-none : (n : Nucleus) (first commands : ℕ) → EndsAsCrew n first commands f held failures old old
  crews-none n first commands = record {
    status = subst EndsUnread (sym (ap (λ (x : Finished). x.status) is)) tt;
    writes = writes-none (crew_text first commands);
    takes = none-closed Memory f (TakesUnless n first commands) is;
    worn = none-closed Memory f HasWornOf is;
  }

module _ {S K : Type 0} (f : Finished) (is : f ≡ record { status = Memory; closed = None }) (left : S → Option (List ℕ)) (faults : S → ℕ) (reliable : S → Type 0) (from : S) (held : K → Option (List ℕ)) (failures : K → ℕ) (old : K) where
  read-none : ReadsWithin (left from) (left from)
  read-none = ([], (Consumes-nil (left from), omega arith))

  reads-none : {R : ReadsText} (l : Layout) → EndsReadingBy R l f.status left faults reliable from from
  reads-none l = reads-as l l Memory f left faults reliable from from refl is (ends-memory l left faults reliable from from refl read-none)

  closes-none : f.closed ≡ None
  closes-none = ap (λ (x : Finished). x.closed) is

  pub replays-none : EndsAsReplay replay_layout f left faults reliable from from held failures old old
  replays-none = record {
    stuck = [];
    reads = reads-none replay_layout;
    writes = writes-none f is held failures old (text_with [] f.closed);
    replays = none-closed Memory f (Replays replay_layout (left from) []) is;
  }

  pub runs-none : (n : Nucleus) → EndsAsRun n f left faults reliable from from held failures old old
  runs-none n = record {
    stuck = [];
    reads = reads-none (layout_of n);
    writes = writes-none f is held failures old (text_with [] f.closed);
    runs = none-closed Memory f (RunsTo (layout_of n) (left from) []) is;
    performs = none-closed Memory f (HasAllPerformed n (left from)) is;
    origin = none-closed Memory f (λ s. IsOfNucleus n) is;
    worn = none-closed Memory f HasWornOf is;
  }

  audits-none : (l : Layout) → EndsAsAudit l f (left from) (left from) (held old) (held old)
  audits-none l = record {
    closed = closes-none;
    reads = subst (λ (x : Finished). ReadsBy x.status (left from) (left from)) (sym is) ([], (Consumes-nil (left from), omega arith));
    prints = subst (λ (x : Finished). Prints l x.status (left from) (held old) (held old)) (sym is) refl;
  }

  draws-none : (l : Layout) → EndsAsPicture l f (left from) (left from) (held old) (held old)
  draws-none l = record {
    closed = closes-none;
    reads = subst (λ (x : Finished). picture.ReadsBy l x.status (left from) (left from)) (sym is) ([], (Consumes-nil (left from), omega arith));
    draws = subst (λ (x : Finished). Draws l x.status (left from) (held old) (held old)) (sym is) refl;
  }

  carries-none : (first : ℕ) → EndsAsLossy first f (left from) (left from) (held old) (held old)
  carries-none first = record {
    closed = closes-none;
    carries = subst (λ (x : Finished). CarriesInput first x.status (left from) (left from) (held old) (held old)) (sym is) ([], (Consumes-nil (left from), omega arith), refl);
  }

  explores-none : (most first : ℕ) → EndsAsExplored most first f left faults reliable from from held failures old old
  explores-none most first = record {
    closed = closes-none;
    explores = record {
      reads = reads-none replay_layout;
      explores = subst (λ (x : Finished). ExploresBy replay_layout most first x.status (left from) (held old) (held old)) (sym is) tt;
      write_fault = λ e. absurd (let both : Memory ≡ WriteFault = sym (ap (λ (x : Finished). x.status) is) ∙ e in cc);
      unwritten = λ a b. refl;
    };
  }

  pub checked-none : (schedules : Schedules) → EndsAsChecked schedules (Err Memory) f left faults reliable from from held failures old old
  checked-none schedules = record {
    is = is;
    checks = record {
      reads = ends-memory replay_layout left faults reliable from from refl read-none;
      checks = tt;
      write_fault = λ e. absurd (let both : Memory ≡ WriteFault = cc e in cc);
      unwritten = ((λ e. absurd (let both : Memory ≡ Done = e in cc)), λ a. refl);
    };
  }

  one-thread-none : (asked : Words) → layout_asked asked ≡ None → DoesOnOneThread asked f left faults reliable from from held failures old old
  one-thread-none words.Replay same = replays-none
  one-thread-none words.Run same = cc
  one-thread-none (words.RunOn turns) same = cc
  one-thread-none (words.Load first commands) same = record { unread = refl; loads = loads-none f is held failures old first commands }
  one-thread-none (words.Audit sites turns) same = audits-none (places_each sites turns)
  one-thread-none words.Check same = (Err Memory, checked-none (All CHECK_MOST))
  one-thread-none (words.CheckMost most) same = (Err Memory, checked-none (All most))
  one-thread-none (words.CheckDrawn count first) same = (Err Memory, checked-none (Drawn count first))
  one-thread-none words.Judge same = (Err Memory, judged-none (asked_by Rules None) f is (left from) (held old))
  one-thread-none (words.JudgeFor sites turns) same = (Err Memory, judged-none (asked_by Rules (Some (places_each sites turns))) f is (left from) (held old))
  one-thread-none words.Promises same = (Err Memory, judged-none (asked_by Promises None) f is (left from) (held old))
  one-thread-none (words.PromisesFor sites turns) same = (Err Memory, judged-none (asked_by Promises (Some (places_each sites turns))) f is (left from) (held old))
  one-thread-none (words.Picture sites turns) same = draws-none (places_each sites turns)
  one-thread-none (words.Lossy first) same = carries-none first
  one-thread-none (words.Crew first commands) same = cc
  one-thread-none words.Explore same = explores-none EXPLORE_MOST EXPLORE_FIRST
  one-thread-none (words.ExploreMost most) same = explores-none most EXPLORE_FIRST
  one-thread-none (words.ExploreFrom most first) same = explores-none most first

  pub does-none : (n : Nucleus) (asked : Words) → Does n asked f left faults reliable from from held failures old old
  does-none n words.Run = runs-none n
  does-none n (words.RunOn turns) = runs-none n
  does-none n (words.Crew first commands) = record { unread = refl; crews = crews-none f is held failures old n first commands }
  does-none n words.Replay = one-thread-none words.Replay refl
  does-none n (words.Load first commands) = one-thread-none (words.Load first commands) refl
  does-none n (words.Audit sites turns) = one-thread-none (words.Audit sites turns) refl
  does-none n words.Check = one-thread-none words.Check refl
  does-none n (words.CheckMost most) = one-thread-none (words.CheckMost most) refl
  does-none n (words.CheckDrawn count first) = one-thread-none (words.CheckDrawn count first) refl
  does-none n words.Judge = one-thread-none words.Judge refl
  does-none n (words.JudgeFor sites turns) = one-thread-none (words.JudgeFor sites turns) refl
  does-none n words.Promises = one-thread-none words.Promises refl
  does-none n (words.PromisesFor sites turns) = one-thread-none (words.PromisesFor sites turns) refl
  does-none n (words.Picture sites turns) = one-thread-none (words.Picture sites turns) refl
  does-none n (words.Lossy first) = one-thread-none (words.Lossy first) refl
  does-none n words.Explore = one-thread-none words.Explore refl
  does-none n (words.ExploreMost most) = one-thread-none (words.ExploreMost most) refl
  does-none n (words.ExploreFrom most first) = one-thread-none (words.ExploreFrom most first) refl

  started-none : (asked : Words) (o : Option Layout) → layout_asked asked ≡ o → DoesOnStarted o asked f left faults reliable from from held failures old old
  started-none asked None o-is = one-thread-none asked o-is
  started-none asked (Some l) o-is = inl (record { status = ap (λ (x : Finished). x.status) is; unread = refl; unwritten = refl })

  pub own-none : (asked : Words) → DoesOnOwn asked f left faults reliable from from held failures old old
  own-none asked = started-none asked (layout_asked asked) refl

-- a replay on sites of a layout is one on those of an equal one
pub replays-at : {S K : Type 0} (l m : Layout) (f : Finished) (left : S → Option (List ℕ)) (faults : S → ℕ) (reliable : S → Type 0) (from rest : S) (held : K → Option (List ℕ)) (failures : K → ℕ) (old new : K) → l ≡ m → EndsAsReplay l f left faults reliable from rest held failures old new → EndsAsReplay m f left faults reliable from rest held failures old new
replays-at l m f left faults reliable from rest held failures old new same h = subst (λ (x : Layout). EndsAsReplay x f left faults reliable from rest held failures old new) same h

-- What is done has its cause, and is no Usage.

module _ {S K : Type 0} (f : Finished) (left : S → Option (List ℕ)) (faults : S → ℕ) (reliable : S → Type 0) (from rest : S) (held : K → Option (List ℕ)) (failures : K → ℕ) (old new : K) where
  pub checked-no-usage : (schedules : Schedules) (given : Result Checked Status) → EndsAsChecked schedules given f left faults reliable from rest held failures old new → f.status ≡ Status.Usage → ⊥
  checked-no-usage schedules given h is = h.checks.reads.usage (sym (ap (λ (x : Finished). x.status) h.is) ∙ is)

  no-usage-on-one : (asked : Words) → DoesOnOneThread asked f left faults reliable from rest held failures old new → f.status ≡ Status.Usage → ⊥
  no-usage-on-one words.Replay d is = d.reads.usage is
  no-usage-on-one words.Run d is = d
  no-usage-on-one (words.RunOn turns) d is = d
  no-usage-on-one (words.Load first commands) d is = subst EndsUnread is d.loads.status
  no-usage-on-one (words.Audit sites turns) d is = subst (λ s. ReadsBy s (left from) (left rest)) is d.reads
  no-usage-on-one words.Check d is = checked-no-usage (All CHECK_MOST) d.0 d.1 is
  no-usage-on-one (words.CheckMost most) d is = checked-no-usage (All most) d.0 d.1 is
  no-usage-on-one (words.CheckDrawn count first) d is = checked-no-usage (Drawn count first) d.0 d.1 is
  no-usage-on-one words.Judge d is = judged-no-usage (asked_by Rules None) d.0 f (left from) (left rest) (held old) (held new) d.1 is
  no-usage-on-one (words.JudgeFor sites turns) d is =
      judged-no-usage (asked_by Rules (Some (places_each sites turns))) d.0 f (left from) (left rest) (held old) (held new) d.1 is
  no-usage-on-one words.Promises d is = judged-no-usage (asked_by Promises None) d.0 f (left from) (left rest) (held old) (held new) d.1 is
  no-usage-on-one (words.PromisesFor sites turns) d is =
      judged-no-usage (asked_by Promises (Some (places_each sites turns))) d.0 f (left from) (left rest) (held old) (held new) d.1 is
  no-usage-on-one (words.Picture sites turns) d is = subst (λ s. picture.ReadsBy (places_each sites turns) s (left from) (left rest)) is d.reads
  no-usage-on-one (words.Crew first commands) d is = d
  no-usage-on-one words.Explore d is = d.explores.reads.usage is
  no-usage-on-one (words.ExploreMost most) d is = d.explores.reads.usage is
  no-usage-on-one (words.ExploreFrom most first) d is = d.explores.reads.usage is
  no-usage-on-one (words.Lossy first) d is = let h = d.carries in subst (λ s. lossy.ReadsBy s h.0 (left from) (left rest)) is h.1

  -- what one thread does is done with any nucleus
  pub with-any : (n : Nucleus) (asked : Words) → DoesOnOneThread asked f left faults reliable from rest held failures old new → Does n asked f left faults reliable from rest held failures old new
  with-any n words.Replay d = d
  with-any n words.Run d = absurd d
  with-any n (words.RunOn turns) d = absurd d
  with-any n (words.Load first commands) d = d
  with-any n (words.Audit sites turns) d = d
  with-any n words.Check d = d
  with-any n (words.CheckMost most) d = d
  with-any n (words.CheckDrawn count first) d = d
  with-any n words.Judge d = d
  with-any n (words.JudgeFor sites turns) d = d
  with-any n words.Promises d = d
  with-any n (words.PromisesFor sites turns) d = d
  with-any n (words.Picture sites turns) d = d
  with-any n (words.Lossy first) d = d
  with-any n (words.Crew first commands) d = absurd d
  with-any n words.Explore d = d
  with-any n (words.ExploreMost most) d = d
  with-any n (words.ExploreFrom most first) d = d

  pub no-usage : (n : Nucleus) (asked : Words) → Does n asked f left faults reliable from rest held failures old new → f.status ≡ Status.Usage → ⊥
  no-usage n words.Run d is = d.reads.usage is
  no-usage n (words.RunOn turns) d is = d.reads.usage is
  no-usage n (words.Crew first commands) d is = subst EndsUnread is d.crews.status
  no-usage n words.Replay d is = no-usage-on-one words.Replay d is
  no-usage n (words.Load first commands) d is = no-usage-on-one (words.Load first commands) d is
  no-usage n (words.Audit sites turns) d is = no-usage-on-one (words.Audit sites turns) d is
  no-usage n words.Check d is = no-usage-on-one words.Check d is
  no-usage n (words.CheckMost most) d is = no-usage-on-one (words.CheckMost most) d is
  no-usage n (words.CheckDrawn count first) d is = no-usage-on-one (words.CheckDrawn count first) d is
  no-usage n words.Judge d is = no-usage-on-one words.Judge d is
  no-usage n (words.JudgeFor sites turns) d is = no-usage-on-one (words.JudgeFor sites turns) d is
  no-usage n words.Promises d is = no-usage-on-one words.Promises d is
  no-usage n (words.PromisesFor sites turns) d is = no-usage-on-one (words.PromisesFor sites turns) d is
  no-usage n (words.Picture sites turns) d is = no-usage-on-one (words.Picture sites turns) d is
  no-usage n (words.Lossy first) d is = no-usage-on-one (words.Lossy first) d is
  no-usage n words.Explore d is = no-usage-on-one words.Explore d is
  no-usage n (words.ExploreMost most) d is = no-usage-on-one (words.ExploreMost most) d is
  no-usage n (words.ExploreFrom most first) d is = no-usage-on-one (words.ExploreFrom most first) d is

  no-usage-on : (asked : Words) (o : Option Layout) → DoesOnStarted o asked f left faults reliable from rest held failures old new → f.status ≡ Status.Usage → ⊥
  no-usage-on asked None d is = no-usage-on-one asked d is
  no-usage-on asked (Some l) (inl unstarted) is = let both : Memory ≡ Status.Usage = sym unstarted.status ∙ is in cc
  no-usage-on asked (Some l) (inr (n, same, d)) is = no-usage n asked d is

  pub own-no-usage : (asked : Words) → DoesOnOwn asked f left faults reliable from rest held failures old new → f.status ≡ Status.Usage → ⊥
  own-no-usage asked d is = no-usage-on asked (layout_asked asked) d is

  -- what is done on what was started for it
  pub on-started : (asked : Words) (o : Option Layout) → o ≡ layout_asked asked → DoesOnStarted o asked f left faults reliable from rest held failures old new → DoesOnOwn asked f left faults reliable from rest held failures old new
  on-started asked o same d = subst (λ (x : Option Layout). DoesOnStarted x asked f left faults reliable from rest held failures old new) same d

-- What is asked suits a nucleus that was started for it.
pub suits : (n : Nucleus) (asked : Words) → Some (layout_of n) ≡ layout_asked asked → Suits n asked
suits n words.Replay same = tt
suits n words.Run same = tt
suits n (words.RunOn turns) same = let is : layout_of n ≡ places_each PROGRAM_SITES turns = cc in sym (ap (λ (l : Layout). l.turns) is)
suits n (words.Load first commands) same = tt
suits n (words.Audit sites turns) same = tt
suits n words.Check same = tt
suits n (words.CheckMost most) same = tt
suits n (words.CheckDrawn count first) same = tt
suits n words.Judge same = tt
suits n (words.JudgeFor sites turns) same = tt
suits n words.Promises same = tt
suits n (words.PromisesFor sites turns) same = tt
suits n (words.Picture sites turns) same = tt
suits n (words.Lossy first) same = tt
suits n words.Explore same = tt
suits n (words.ExploreMost most) same = tt
suits n (words.ExploreFrom most first) same = tt
suits n (words.Crew first commands) same =
    let is : layout_of n ≡ places_each PROGRAM_SITES 1 = cc in
    let sites = ap (λ (l : Layout). l.sites) is in omega (arith, sites)
