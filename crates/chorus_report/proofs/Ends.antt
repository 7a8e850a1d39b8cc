-- How reading ends, and what is so of a call that was finished.
use Rattle.std.proofs.Common.{◌≡◌, ◌⊎◌, inl, inr, true, false, cond, ℕ, List, Option, Some, None, IfSome, IfOk, IfErr, Result, Ok, Err, refl, sym, ◌∙◌, ap, subst}
use Rattle.std.specs.declared.alloc.AllocError.{AllocError}
use Rattle.std.proofs.lemmas.Bool.{false≢true}
use Rattle.chorus_io.specs.Bytes.{IsReadWhole}
use Rattle.chorus_io.specs.Count.{Rose}
use Rattle.chorus_ui.specs.declared.layout.Layout.{Layout}
use Rattle.chorus_net.specs.declared.closed.Closed.{Closed}
use Rattle.chorus_scene.specs.declared.limits.TheConstants.{TEXT_LIMIT}
use Rattle.chorus_show.specs.declared.status.Status.{Status}
use Rattle.chorus_report.specs.declared.finished.Finished.{Finished}
use Rattle.chorus_report.specs.declared.played.Played.{Played}
use Rattle.chorus_scene.specs.Grammar.{read_scene}
use Rattle.chorus_scene.specs.Scene.{Scene}
use Rattle.chorus_report.specs.Reading.{ReadsText, IsGivenBy, IsGiven, IsGivenNoWait, IsRead, ReadsNoFurther, ReadsWithin, has_wait, if_nothing_waits, read_without_waits}
use Rattle.chorus_report.specs.Output.{EndsUnread, GivesUp, HandsOut, Writes}
use Rattle.chorus_report.specs.Ending.{EndsReadingBy, EndsReading, EndsReadingNoWait, EndsWriting, EndsBy, EndsFor, IsFinished}
use Rattle.chorus_report.proofs.Read.{within-most}

module _ {S : Type 0} {R : ReadsText} (l : Layout) (left : S → Option (List ℕ)) (faults : S → ℕ) (reliable : S → Type 0) (old new : S) where
  pub ends-fault : (reliable old → faults new ≡ faults old) → Rose (faults old) (faults new) → ReadsNoFurther (left old) (left new) → EndsReadingBy R l Status.ReadFault left faults reliable old new
  ends-fault no_fault rose most = record {
    usage = λ h. cc;
    scenario = λ line reason h. absurd (cc);
    read_fault = λ h. rose;
    steady = λ h. absurd (h refl);
    no_fault = no_fault;
    read = λ h k. absurd (h refl);
    memory = λ h. absurd (cc);
    reads_at_most = most;
  }

  -- the count stayed
  module _ (same : faults new ≡ faults old) where
    pub ends-memory : ReadsWithin (left old) (left new) → EndsReadingBy R l Status.Memory left faults reliable old new
    ends-memory within = record {
      usage = λ h. cc;
      scenario = λ line reason h. absurd (cc);
      read_fault = λ h. absurd (cc);
      steady = λ h. same;
      no_fault = λ h. same;
      read = λ h k. absurd (k refl);
      memory = λ h. within;
      reads_at_most = within-most (left old) (left new) within;
    }

  module _ (same : faults new ≡ faults old) (most : ReadsNoFurther (left old) (left new)) where
    pub ends-refused : (s : Status) (a b : ℕ) → s ≡ Status.Scenario a b → IsGivenBy R l (left old) (Err (a, b)) → IsRead (left old) (left new) → EndsReadingBy R l s left faults reliable old new
    ends-refused s a b is given read = record {
      usage = λ h. absurd (let both : Status.Scenario a b ≡ Status.Usage = sym is ∙ h in cc);
      scenario = λ line reason h.
          (let both : Status.Scenario a b ≡ Status.Scenario line reason = sym is ∙ h in
          let one : a ≡ line = cc in
          let two : b ≡ reason = cc in
          subst (λ x. IsGivenBy R l (left old) (Err (x, reason))) one (subst (λ y. IsGivenBy R l (left old) (Err (a, y))) two given));
      read_fault = λ h. absurd (let both : Status.Scenario a b ≡ Status.ReadFault = sym is ∙ h in cc);
      steady = λ h. same;
      no_fault = λ h. same;
      read = λ h k. read;
      memory = λ h. absurd (let both : Status.Scenario a b ≡ Status.Memory = sym is ∙ h in cc);
      reads_at_most = most;
    }

    -- all was read, and the call ends as one that reads nothing
    pub ends-read : (bytes : List ℕ) → IsReadWhole TEXT_LIMIT bytes (left old) (left new) → (s : Status) → EndsUnread s → EndsReadingBy R l s left faults reliable old new
    ends-read bytes whole s ends = record {
      usage = λ h. absurd (subst EndsUnread h ends);
      scenario = λ line reason h. absurd (subst EndsUnread h ends);
      read_fault = λ h. absurd (subst EndsUnread h ends);
      steady = λ h. same;
      no_fault = λ h. same;
      read = λ h k. record { bytes = bytes; read = inl whole };
      memory = λ h. (bytes, (whole.0, whole.2));
      reads_at_most = most;
    }

-- A call that takes no awaits ends as one that reads the grammar, but where something waits.

pub given-ok : (l : Layout) (told : Option (List ℕ)) (c : Scene) → IsGiven l told (Ok c) → has_wait c ≡ false → IsGivenNoWait l told (Ok c)
given-ok l told c g waits = record { bytes = g.bytes; read = g.read; given = ap if_nothing_waits g.given ∙ ap (λ b. cond b (Err (0, 2)) (Ok c)) waits }

given-err : (l : Layout) (told : Option (List ℕ)) (fault : ℕ × ℕ) → IsGivenBy read_scene l told (Err fault) → IsGivenBy read_without_waits l told (Err fault)
given-err l told fault g = record { bytes = g.bytes; read = g.read; given = ap if_nothing_waits g.given }

module _ {S : Type 0} (l : Layout) (s : Status) (left : S → Option (List ℕ)) (faults : S → ℕ) (reliable : S → Type 0) (old new : S) (h : EndsReading l s left faults reliable old new) where
  pub still-refused : EndsReadingNoWait l s left faults reliable old new
  still-refused = record {
    usage = h.usage;
    scenario = λ line reason is. given-err l (left old) (line, reason) (h.scenario line reason is);
    read_fault = h.read_fault;
    steady = h.steady;
    no_fault = h.no_fault;
    read = h.read;
    memory = h.memory;
    reads_at_most = h.reads_at_most;
  }

-- a text in which something waits is refused so
pub waits-refused : {S : Type 0} (l : Layout) (left : S → Option (List ℕ)) (faults : S → ℕ) (reliable : S → Type 0) (old new : S) (c : Scene) (s : Status) (line reason : ℕ) → IsGivenBy read_scene l (left old) (Ok c)
    → has_wait c ≡ true → s ≡ Status.Scenario line reason → line ≡ 0 → reason ≡ 2 → EndsReading l Status.Done left faults reliable old new → EndsReadingNoWait l s left faults reliable old new
waits-refused l left faults reliable old new c s line reason g waits is no-line no-reason done =
    ends-refused l left faults reliable old new (done.steady (λ e. cc)) done.reads_at_most s line reason is
    (record {
      bytes = g.bytes;
      read = g.read;
      given = ap if_nothing_waits g.given ∙ ap (λ b. cond b (Err (0, 2)) (Ok c)) waits ∙ (λ i. Err (sym no-line i, sym no-reason i));
    })
    (done.read (λ e. cc) (λ e. cc))

-- what is so of the error of a call is so where it is passed on
pub err-so : {A : Type 0} (r : Result A Status) (y x : Status) (P : Status → Type 0) → r ≡ Err y → y ≡ x → P x → IfErr r P
err-so r y x P e same h = subst (λ z. IfErr z P) (sym e) (subst P (sym same) h)

-- What is so of what was played, as it ends, is so when it is finished.

ends-so : (P : Status → Closed → Type 0) (worn : Option ℕ) (s : Status) (closed : Closed) → EndsFor P worn closed → EndsBy worn s → P s closed
ends-so P None s closed p (inl e) = subst (λ s. P s closed) (sym e) p.0
ends-so P None s closed p (inr e) = subst (λ s. P s closed) (sym e) p.1
ends-so P (Some clock) s closed p e = subst (λ s. P s closed) (sym e) p

at-ok : (r : Result Played AllocError) (p : Played) (P : Played → Type 0) → r ≡ Ok p → IfOk r P → P p
at-ok r p P is h = subst (λ r. IfOk r P) is h

pub finished-so : (P : Status → Closed → Type 0) (r : Result Played AllocError) (s : Status) (o : Option Closed) → IfOk r (λ p. EndsFor P p.worn p.closed) → IfSome o (IsFinished r s) → IfSome o (P s)
finished-so P r s None h f = tt
finished-so P r s (Some closed) h f =
    subst (P s) (sym f.closed_is) (ends-so P f.whole.worn s f.whole.closed (at-ok r f.whole (λ p. EndsFor P p.worn p.closed) f.is h) f.ends)

-- a call that was finished has a clock that was worn
pub finished-worn : (r : Result Played AllocError) (p : Played) (clock : ℕ) → r ≡ Ok p → p.worn ≡ Some clock → IsFinished r (Status.Worn clock) p.closed
finished-worn r p clock is worn = record { whole = p; is = is; closed_is = refl; ends = subst (λ w. EndsBy w (Status.Worn clock)) (sym worn) refl }

-- or was written
pub finished-as : (r : Result Played AllocError) (p : Played) (s : Status) (o : Option Closed) → r ≡ Ok p → p.worn ≡ None → o ≡ Some p.closed → (s ≡ Status.Done) ⊎ (s ≡ Status.WriteFault) → IfSome o (IsFinished r s)
finished-as r p s o is none closed how = subst (λ o. IfSome o (IsFinished r s)) (sym closed) (by how)
  where
    by : (s ≡ Status.Done) ⊎ (s ≡ Status.WriteFault) → IsFinished r s p.closed
    by (inl e) = subst (λ s. IsFinished r s p.closed) (sym e) (record { whole = p; is = is; closed_is = refl; ends = subst (λ w. EndsBy w Status.Done) (sym none) (inl refl) })
    by (inr e) = subst (λ s. IsFinished r s p.closed) (sym e) (record { whole = p; is = is; closed_is = refl; ends = subst (λ w. EndsBy w Status.WriteFault) (sym none) (inr refl) })

pub none-of : (o : Option ℕ) → ((x : ℕ) → o ≡ Some x → ⊥) → o ≡ None
none-of None h = refl
none-of (Some x) h = absurd (h x refl)

-- A call that gave up wrote nothing.

pub gave-up-writes : {K : Type 0} (text : List ℕ) (s : Status) (f : Finished) (held : K → Option (List ℕ)) (failures : K → ℕ) (old new : K) → GivesUp s → f ≡ record { status = s; closed = None } → new ≡ old → EndsWriting text f held failures old new
gave-up-writes text s f held failures old new gives is same =
    subst (λ (z : Finished). EndsWriting text z held failures old new) (sym is) (by s gives)
  where
    writes : (s : Status) → GivesUp s → Writes s (held old) (held new) text
    writes Status.Done g = absurd g
    writes Status.Usage g = absurd g
    writes (Status.Scenario line reason) g = ap held same
    writes Status.ReadFault g = ap held same
    writes Status.WriteFault g = absurd g
    writes Status.Memory g = ap held same
    writes (Status.Worn clock) g = absurd g

    none : (s : Status) → GivesUp s → HandsOut s → ⊥
    none Status.Done g h = g
    none Status.Usage g h = g
    none (Status.Scenario line reason) g h = h
    none Status.ReadFault g h = h
    none Status.WriteFault g h = g
    none Status.Memory g h = h
    none (Status.Worn clock) g h = g

    by : (s : Status) → GivesUp s → EndsWriting text (record { status = s; closed = None }) held failures old new
    by s g = record {
      write_fault = λ e. absurd (subst GivesUp e g);
      worn = λ clock e. absurd (subst GivesUp e g);
      closed = (λ h. absurd (false≢true h), λ h. absurd (none s g h));
      unwritten = λ d w. same;
      prints = writes s g;
    }

pub reads-as : {S : Type 0} {R : ReadsText} (l m : Layout) (s : Status) (f : Finished) (left : S → Option (List ℕ)) (faults : S → ℕ) (reliable : S → Type 0) (old new : S) → l ≡ m → f ≡ record { status = s; closed = None } → EndsReadingBy R l s left faults reliable old new → EndsReadingBy R m f.status left faults reliable old new
reads-as {R = R} l m s f left faults reliable old new same is h =
    subst (λ z. EndsReadingBy R z f.status left faults reliable old new) same (subst (λ (t : Status). EndsReadingBy R l t left faults reliable old new) (sym (ap (λ (z : Finished). z.status) is)) h)

pub none-closed : (s : Status) (f : Finished) (P : Status → Closed → Type 0) → f ≡ record { status = s; closed = None } → IfSome f.closed (P f.status)
none-closed s f P is = subst (λ (z : Finished). IfSome z.closed (P z.status)) (sym is) tt

pub reads-at : {S : Type 0} {R : ReadsText} (l m : Layout) (s : Status) (left : S → Option (List ℕ)) (faults : S → ℕ) (reliable : S → Type 0) (old new : S) → l ≡ m → EndsReadingBy R l s left faults reliable old new → EndsReadingBy R m s left faults reliable old new
reads-at {R = R} l m s left faults reliable old new same h = subst (λ z. EndsReadingBy R z s left faults reliable old new) same h
