-- Scenarios in which nothing waits are played whole.
use Rattle.std.proofs.Common.{ℕ, zero, suc, ◌≡◌, ◌+◌, nat_lt, Bool, true, false, ◌||◌, cond, List, [], ◌∷◌, ◌++◌, length, map, take, drop, slice_get, Option, Some, None, Result, Ok, Err, refl, sym, ◌∙◌, ap, subst, inl, inr, take_all, append_assoc, arith}
use Rattle.std.specs.Prelude.{slice_index_or}
use Rattle.std.specs.List.{All, list_any}
use Rattle.std.specs.Option.{option_map}
use Rattle.std.proofs.lemmas.Bool.{false≢true}
use Rattle.std.proofs.lemmas.Bool.Decides.{nat_tests}
use Rattle.std.proofs.lemmas.List.{drop_all, take-append-drop}
use Rattle.std.proofs.lemmas.List.Elements.{All-nil, All-cons, All-head, All-tail}
use Rattle.std.proofs.lemmas.Option.{slice_get-map, get_or_from_slice_get}
use Rattle.chorus_ui.specs.declared.layout.Layout.{Layout}
use Rattle.chorus_ui.specs.declared.ui.Ui.{Ui}
use Rattle.chorus_entry.specs.declared.act.Act.{Act}
use Rattle.chorus_entry.specs.declared.command.Command.{Command}
use Rattle.chorus_net.specs.declared.closed.Closed.{Closed}
use Rattle.chorus_net.specs.Closing.{past_of}
use Rattle.chorus_show.specs.declared.status.Status.{Status}
use Rattle.chorus_scene.specs.Scene.{Scene, Script, HasNoWait, is_await}
use Rattle.chorus_scene.specs.Grammar.{read_scene}
use Rattle.chorus_report.specs.Awaiting.{fronts_of, AwaitsTake, StandsAt, StandsUnless}
use Rattle.law_awaits.specs.Awaits.{own_acts}
use Rattle.chorus_report.specs.Headline.{PerformsFirst, PerformsUnless, Plays, Runs, AreWithinUnless, RunsWithoutWaits, WholeRuns, callers_of, commands_by}
use Rattle.chorus_report.specs.Reading.{IsGiven, IsGivenNoWait, has_wait, if_nothing_waits}

-- Whether something waits.

pub nothing-waits : (scripts : List Script) → list_any (λ (script : Script). nat_lt 0 (length script.waits)) scripts ≡ false → All (λ (script : Script). script.waits ≡ []) scripts
nothing-waits [] h = All-nil (λ (script : Script). script.waits ≡ [])
nothing-waits (s ∷ scripts) h =
    let p = neither (nat_lt 0 (length s.waits)) (list_any (λ (script : Script). nat_lt 0 (length script.waits)) scripts) h in
    All-cons (λ (script : Script). script.waits ≡ []) s scripts (empty s.waits p.0) (nothing-waits scripts p.1)
  where
    neither : (a b : Bool) → (a || b) ≡ false → (a ≡ false) × (b ≡ false)
    neither false b e = (refl, e)
    neither true b e = absurd (false≢true (sym e))

    empty : (is : List ℕ) → nat_lt 0 (length is) ≡ false → is ≡ []
    empty [] e = refl
    empty (i ∷ is) e = absurd (some (length is) e)
      where
        some : (m : ℕ) → nat_lt 0 (suc m) ≡ false → ⊥
        some m k = grind (arith, nat_tests)

pub none-at : (scripts : List Script) (i : ℕ) (script : Script) → All (λ (s : Script). s.waits ≡ []) scripts → slice_get scripts i ≡ Some script → script.waits ≡ []
none-at [] i script all h = absurd (cc)
none-at (s ∷ scripts) zero script all h = (let e : s ≡ script = cc in subst (λ (z : Script). z.waits ≡ []) e (All-head (λ (z : Script). z.waits ≡ []) s scripts all))
none-at (s ∷ scripts) (suc i) script all h = none-at scripts i script (All-tail (λ (z : Script). z.waits ≡ []) s scripts all) h

-- so no await has to receive anything
pub none-take : (waits : List ℕ) (i : ℕ) (acts : List Act) → waits ≡ [] → AwaitsTake waits i acts
none-take waits i [] none = tt
none-take waits i (act ∷ acts) none = (λ e. absurd (false≢true (sym (ap (λ (ws : List ℕ). is_await ws i) none) ∙ e)), none-take waits (i + 1) acts none)

-- Commands, all or the first.

given-all : (c : Scene) (i : ℕ) (given : List Command) → commands_by c (suc i) ≡ Some given → (script : Script) × (slice_get c.scripts i ≡ Some script) × (script.commands ≡ given)
given-all c i given h = go (slice_get c.scripts i) refl (sym (slice_get-map (λ (script : Script). script.commands) c.scripts i) ∙ h)
  where
    go : (o : Option Script) → slice_get c.scripts i ≡ o → option_map (λ (script : Script). script.commands) o ≡ Some given → (script : Script) × (slice_get c.scripts i ≡ Some script) × (script.commands ≡ given)
    go None e k = absurd (cc)
    go (Some script) e k = (script, e, cc)

same-plays : (l : Layout) (callers : ℕ → Option Ui) (f g : ℕ → Option (List Command)) (status : Status) (closed : Closed) → ((k : ℕ) (actor : Ui) (given : List Command) → callers k ≡ Some actor → g k ≡ Some given → PerformsUnless status l k actor closed given)
    → Plays l callers f status closed → Plays l callers g status closed
same-plays l callers f g status closed performed p = record {
  run = p.run;
  performed = performed;
  receives = p.receives;
  holds = p.holds;
  left = p.left;
  stands = p.stands;
  places_are = p.places_are;
  journals = p.journals;
  quiet = p.quiet;
}

-- Where nothing waits, all was done.

module _ (l : Layout) (c : Scene) (none : HasNoWait c) (done : List ℕ) (closed : Closed) where
  -- what is left of no script is nothing
  abbrev Left : Type 0
  Left = (i : ℕ) (script : Script) → slice_get c.scripts i ≡ Some script → StandsAt l script (suc i) (slice_index_or done i 0) (past_of closed)

  pub all-done : Left → (i : ℕ) (script : Script) → slice_get c.scripts i ≡ Some script → drop (slice_index_or done i 0) script.commands ≡ []
  all-done left i script at =
      let n = slice_index_or done i 0 in
      elim ((left i script at).left) [
        | inl e ↦ e
        | inr stuck ↦ absurd (false≢true (sym (ap (λ (ws : List ℕ). is_await ws n) (none-at c.scripts i script none at)) ∙ stuck.waits))
      ]

  fronts-whole : Left → (k : ℕ) (given : List Command) → commands_by c k ≡ Some given → fronts_of c done k ≡ Some given
  fronts-whole left zero given h = h
  fronts-whole left (suc i) given h =
      let found = given-all c i given h in
      let script : Script = found.0 in
      let n = slice_index_or done i 0 in
      let rest = all-done left i script found.1 in
      ap (option_map (λ (s : Script). take n s.commands)) found.1
      ∙ ap (λ (cs : List Command). Some cs) (sym (append-none (take n script.commands)) ∙ ap (λ cs. take n script.commands ++ cs) (sym rest) ∙ take-append-drop n script.commands ∙ found.2)
    where
      append-none : (xs : List Command) → xs ++ [] ≡ xs
      append-none [] = refl
      append-none (x ∷ xs) = ap (λ ys. x ∷ ys) (append-none xs)

  -- a front of the first commands is one of all
  more-first : (k : ℕ) (actor : Ui) (n : ℕ) (all : List Command) → PerformsFirst l k actor closed (take n all) → PerformsFirst l k actor closed all
  more-first k actor n all h =
      (h.0, (h.1.0 ++ drop n all, (sym (take-append-drop n all) ∙ ap (λ cs. cs ++ drop n all) h.1.1.0 ∙ append_assoc h.0 h.1.0 (drop n all), h.1.1.1)))

  worn-first : (p : (k : ℕ) (actor : Ui) (given : List Command) → callers_of c k ≡ Some actor → fronts_of c done k ≡ Some given → PerformsFirst l k actor closed given)
      → (k : ℕ) (actor : Ui) (given : List Command) → callers_of c k ≡ Some actor → commands_by c k ≡ Some given → PerformsFirst l k actor closed given
  worn-first p zero actor given who h = p zero actor given who h
  worn-first p (suc i) actor given who h =
      let found = given-all c i given h in
      let script : Script = found.0 in
      let n = slice_index_or done i 0 in
      subst (PerformsFirst l (suc i) actor closed) found.2
      (more-first (suc i) actor n script.commands (p (suc i) actor (take n script.commands) who (ap (option_map (λ (s : Script). take n s.commands)) found.1)))

  whole : (status : Status) → Left → Plays l (callers_of c) (fronts_of c done) status closed → Plays l (callers_of c) (commands_by c) status closed
  whole status left p = same-plays l (callers_of c) (fronts_of c done) (commands_by c) status closed (λ k actor given who h. p.performed k actor given who (fronts-whole left k given h)) p

  pub played-whole : (status : Status) → StandsUnless status l c done (past_of closed) → Plays l (callers_of c) (fronts_of c done) status closed → Plays l (callers_of c) (commands_by c) status closed
  played-whole Status.Done left p = whole Status.Done left p
  played-whole Status.Usage left p = whole Status.Usage left p
  played-whole (Status.Scenario line reason) left p = whole (Status.Scenario line reason) left p
  played-whole Status.ReadFault left p = whole Status.ReadFault left p
  played-whole Status.WriteFault left p = whole Status.WriteFault left p
  played-whole Status.Memory left p = whole Status.Memory left p
  played-whole (Status.Worn clock) left p =
      same-plays l (callers_of c) (fronts_of c done) (commands_by c) (Status.Worn clock) closed (worn-first p.performed) p

pub runs-without-waits : RunsWithoutWaits
runs-without-waits l told status closed r none = played-whole l r.scene none r.done closed status r.stands r.plays

-- And what was played whole runs.

abbrev all_commands : Scene → List ℕ
all_commands c = map (λ (script : Script). length script.commands) c.scripts

module _ (l : Layout) (c : Scene) (none : HasNoWait c) (closed : Closed) where
  many : (i : ℕ) (script : Script) → slice_get c.scripts i ≡ Some script → slice_index_or (all_commands c) i 0 ≡ length script.commands
  many i script at =
      get_or_from_slice_get (all_commands c) i (length script.commands) 0
      (slice_get-map (λ (s : Script). length s.commands) c.scripts i ∙ ap (option_map (λ (s : Script). length s.commands)) at)

  stands-whole : (i : ℕ) (script : Script) → slice_get c.scripts i ≡ Some script → StandsAt l script (suc i) (slice_index_or (all_commands c) i 0) (past_of closed)
  stands-whole i script at = record {
    taken = none-take script.waits 0 (own_acts (suc i) (past_of closed)) (none-at c.scripts i script none at);
    left = inl (ap (λ n. drop n script.commands) (many i script at) ∙ drop_all (length script.commands) script.commands (omega arith));
  }

  stands-all : (status : Status) → StandsUnless status l c (all_commands c) (past_of closed)
  stands-all Status.Done = stands-whole
  stands-all Status.Usage = stands-whole
  stands-all (Status.Scenario line reason) = stands-whole
  stands-all Status.ReadFault = stands-whole
  stands-all Status.WriteFault = stands-whole
  stands-all Status.Memory = stands-whole
  stands-all (Status.Worn clock) = tt

  all-fronts : (k : ℕ) (given : List Command) → fronts_of c (all_commands c) k ≡ Some given → commands_by c k ≡ Some given
  all-fronts zero given h = h
  all-fronts (suc i) given h = go (slice_get c.scripts i) refl h
    where
      go : (o : Option Script) → slice_get c.scripts i ≡ o → option_map (λ (s : Script). take (slice_index_or (all_commands c) i 0) s.commands) o ≡ Some given → commands_by c (suc i) ≡ Some given
      go None e k = absurd (cc)
      go (Some script) e k =
          let same : take (slice_index_or (all_commands c) i 0) script.commands ≡ given = cc in
          slice_get-map (λ (s : Script). s.commands) c.scripts i ∙ ap (option_map (λ (s : Script). s.commands)) e
          ∙ ap (λ (cs : List Command). Some cs) (sym (take_all (slice_index_or (all_commands c) i 0) script.commands (let m = many i script e in omega (arith, m))) ∙ same)

  runs-whole : (told : Option (List ℕ)) (status : Status) → IsGiven l told (Ok c) → Plays l (callers_of c) (commands_by c) status closed → AreWithinUnless status closed → Runs l told status closed
  runs-whole told status given p within = record {
    scene = c;
    given = given;
    done = all_commands c;
    plays = same-plays l (callers_of c) (commands_by c) (fronts_of c (all_commands c)) status closed (λ k actor commands who h. p.performed k actor commands who (all-fronts k commands h)) p;
    stands = stands-all status;
    within = within;
  }

-- where nothing waits, a text is given as it is
pub given-whole : (l : Layout) (told : Option (List ℕ)) (c : Scene) → IsGivenNoWait l told (Ok c) → IsGiven l told (Ok c) × HasNoWait c
given-whole l told c g = by (read_scene l g.bytes) refl g.given
  where
    by : (r : Result Scene (ℕ × ℕ)) → read_scene l g.bytes ≡ r → if_nothing_waits r ≡ Ok c → IsGiven l told (Ok c) × HasNoWait c
    by (Err fault) e h = absurd (cc)
    by (Ok d) e h = go (has_wait d) refl h
      where
        go : (b : Bool) → has_wait d ≡ b → cond {A = Result Scene (ℕ × ℕ)} b (Err (0, 2)) (Ok d) ≡ Ok c → IsGiven l told (Ok c) × HasNoWait c
        go true w k = absurd (cc)
        go false w k =
            let same : d ≡ c = cc in
            (record { bytes = g.bytes; read = g.read; given = e ∙ k }, subst HasNoWait same (nothing-waits d.scripts w))

pub whole-runs : WholeRuns
unfolding runs-whole
whole-runs l told status closed w =
    let g = given-whole l told w.scene w.given in
    (runs-whole l w.scene g.1 closed told status g.0 w.plays w.within, g.1)
