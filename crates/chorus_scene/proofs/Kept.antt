-- A scenario that was read keeps the limits.
use Rattle.std.proofs.Common.{◌≡◌, ℕ, ◌-◌, ◌<◌, ◌≤◌, Bool, true, false, not, ◌&&◌, ◌||◌, List, [], ◌∷◌, ◌++◌, ◌⊎◌, inl, inr, length, set, refl, sym, ap, ◌∙◌, arith, subst, length-append, length-set, append_assoc}
use Rattle.std.specs.Prelude.{nat_le}
use Rattle.std.specs.List.{list_all}
use Rattle.std.specs.Str.{bytes_eq}
use Rattle.std.proofs.lemmas.List.Folds.{list_any-append}
use Rattle.std.proofs.lemmas.Slice.Eq.{bytes_eq-Decides}
use Rattle.std.proofs.lemmas.Bool.Decides.{nat_tests}
use Rattle.std.proofs.lemmas.List.{append-nil}
use Rattle.chorus_ui.specs.declared.layout.Layout.{Layout}
use Rattle.chorus_entry.specs.declared.command.Command.{Command}
use Rattle.chorus_entry.specs.declared.command.Command.TheVariants as commands
use Rattle.chorus_scene.specs.declared.scenario.SetupLine.{SetupLine}
use Rattle.chorus_scene.specs.declared.scenario.SetupLine.TheVariants as setups
use Rattle.chorus_scene.specs.declared.scenario.Step as step
use Rattle.chorus_lines.specs.declared.word.Section.{Section}
use Rattle.chorus_lines.specs.declared.word.Section.TheVariants as sections
use Rattle.chorus_lines.specs.Text.{lines, is_text, is_skipped}
use Rattle.chorus_scene.specs.Scene.{Scene, Script}
use Rattle.chorus_scene.specs.Line.{Line, VersionLine, SitesLine, PortLine, GroupLine, MemberLine, ScriptLine, CommandLine, AwaitLine, ClaimLine, ScheduleLine, StepLine, EndLine}
use Rattle.chorus_scene.specs.Grammar.{State, opening, after, with_last, with_command, with_await, last_script, no_script, is_claimed}
use Rattle.chorus_scene.specs.Laws.{Pass}
use Rattle.chorus_scene.specs.Limits.{is_actor_of, command_keeps, script_keeps, setup_line_keeps, setup_keeps, is_claim, none_twice, step_keeps, schedule_keeps, waits_keep, Keeps, ReadKeeps, OldTextsDoNotWait}
use Rattle.chorus_scene.proofs.Again.{and_join, or_first, or_second}
use Rattle.chorus_scene.proofs.Next.{neither}
use Rattle.chorus_scene.proofs.Sofar.{IsBeforeSchedule}
use Rattle.chorus_scene.proofs.Spelled.{both}
use Rattle.chorus_scene.proofs.Keeping.{all_at, all_more, all_set}
use Rattle.chorus_scene.proofs.Waits.{waits_command, waits_await, no_script_waits}
use Rattle.chorus_scene.proofs.Fits.{IsCounted, Fits, fits, so_not, un_not}
use Rattle.chorus_scene.proofs.Law.{Tidy, tidy_at, early_parts, Stays, Said, line_said, inv_text, inv_judge, section_ended}

module _ (l : Layout) (n : ℕ) where
  setup_more : (before lines : List SetupLine) (line : SetupLine) → setup_keeps l n before lines ≡ true → setup_line_keeps l n (before ++ lines) line ≡ true → setup_keeps l n before (lines ++ line ∷ []) ≡ true
  setup_more before [] line h k = and_join _ _ (subst (λ xs. setup_line_keeps l n xs line ≡ true) (append-nil before) k) refl
  setup_more before (first ∷ lines) line h k =
      let p = both (setup_line_keeps l n before first) (setup_keeps l n (before ++ first ∷ []) lines) h in
      and_join _ _ p.0 (setup_more (before ++ first ∷ []) lines line p.1 (subst (λ xs. setup_line_keeps l n xs line ≡ true) (sym (append_assoc before (first ∷ []) lines)) k))

  schedule_more : (scripts : List Script) (before steps : List step.Step) (step : step.Step) → schedule_keeps l n scripts before steps ≡ true → step_keeps l n scripts (before ++ steps) step ≡ true → schedule_keeps l n scripts before (steps ++ step ∷ []) ≡ true
  schedule_more scripts before [] step h k = and_join _ _ (subst (λ xs. step_keeps l n scripts xs step ≡ true) (append-nil before) k) refl
  schedule_more scripts before (first ∷ steps) step h k =
      let p = both (step_keeps l n scripts before first) (schedule_keeps l n scripts (before ++ first ∷ []) steps) h in
      and_join _ _ p.0 (schedule_more scripts (before ++ first ∷ []) steps step p.1 (subst (λ xs. step_keeps l n scripts xs step ≡ true) (sym (append_assoc before (first ∷ []) steps)) k))

few : (n m : ℕ) → nat_le n m ≡ true → n ≤ m
few n m h = grind (arith, nat_tests)

so_few : (n m : ℕ) → n ≤ m → nat_le n m ≡ true
so_few n m h = grind (arith, nat_tests)

-- a command more in the last script
script_more : (l : Layout) (version n : ℕ) (command : Command) (s : Script) → script_keeps l version n s ≡ true → command_keeps l version n command ≡ true → length s.commands < 4096 → script_keeps l version n (with_command command s) ≡ true
script_more l version n command s h k lt =
    let p = both (is_actor_of l n s.actor && nat_le (length s.commands) 4096) (list_all (command_keeps l version n) s.commands) h in
    let q = both (is_actor_of l n s.actor) (nat_le (length s.commands) 4096) p.0 in
    and_join _ _ (and_join _ _ q.0 (so_few (length (s.commands ++ command ∷ [])) 4096 (omega (arith, length-append s.commands (command ∷ []))))) (all_more (command_keeps l version n) s.commands command p.1 k)

-- the last script changes, and keeps its limits
last_more : (keeps : Script → Bool) (change : Script → Script) (scripts : List Script) → 0 < length scripts → list_all keeps scripts ≡ true → (keeps (last_script scripts) ≡ true → keeps (change (last_script scripts)) ≡ true)
    → list_all keeps (set scripts (length scripts - 1) (change (last_script scripts))) ≡ true
last_more keeps change scripts some h more =
    all_set keeps scripts (length scripts - 1) (change (last_script scripts)) h
    (more (all_at keeps scripts (length scripts - 1) no_script h (omega arith)))

-- the version and the sites, as far as the lines have said them
abbrev BoundIn : Section → Scene → Type 0
BoundIn sections.Head c = Unit {0}
BoundIn sections.Sites c = (1 ≤ c.version) × (c.version ≤ 3)
BoundIn _ c = (1 ≤ c.version) × (c.version ≤ 3) × IsCounted c

-- what the claims keep
record Claims (c : Scene) : Type 0 where
  from_three : c.version < 3 → c.claims ≡ []
  few : length c.claims ≤ 64
  each : list_all (is_claim c) c.claims ≡ true
  once : none_twice c.claims ≡ true

no_claims : (c : Scene) → c.claims ≡ [] → Claims c
no_claims c e = record { from_three = λ k. e; few = rw e (omega arith); each = rw e refl; once = rw e refl }

-- what the lines so far keep
record Within (s : State) : Type 0 where
  tidy : Tidy s
  bound : BoundIn s.section s.scene
  setup : setup_keeps s.scene.layout s.scene.sites [] s.scene.setup ≡ true
  few_scripts : length s.scene.scripts ≤ 16
  scripts : list_all (script_keeps s.scene.layout s.scene.version s.scene.sites) s.scene.scripts ≡ true
  waits : list_all (waits_keep s.scene.version) s.scene.scripts ≡ true
  claims : Claims s.scene
  few_steps : length s.scene.schedule ≤ 131072
  schedule : schedule_keeps s.scene.layout s.scene.sites s.scene.scripts [] s.scene.schedule ≡ true

bound_at : (sec : Section) (s : State) → s.section ≡ sec → Within s → BoundIn sec s.scene
bound_at sec s e w = let b = w.bound in rw e at b

bound_early : (s : State) → (s.section ≡ sections.Setup) ⊎ (s.section ≡ sections.Scripts) → Within s → (1 ≤ s.scene.version) × (s.scene.version ≤ 3) × IsCounted s.scene
bound_early s (inl e) w = bound_at sections.Setup s e w
bound_early s (inr e) w = bound_at sections.Scripts s e w

bound_before : (s : State) → IsBeforeSchedule s → Within s → (1 ≤ s.scene.version) × (s.scene.version ≤ 3) × IsCounted s.scene
bound_before s (inl e) w = bound_early s e.0 w
bound_before s (inr e) w = bound_at sections.Claims s e w

no_setup : (l : Layout) (n : ℕ) (lines : List SetupLine) → lines ≡ [] → setup_keeps l n [] lines ≡ true
no_setup l n lines e = rw e refl

no_scripts : (l : Layout) (version n : ℕ) (scripts : List Script) → scripts ≡ [] → list_all (script_keeps l version n) scripts ≡ true
no_scripts l version n scripts e = rw e refl

no_steps : (l : Layout) (n : ℕ) (scripts : List Script) (schedule : List step.Step) → schedule ≡ [] → schedule_keeps l n scripts [] schedule ≡ true
no_steps l n scripts schedule e = rw e refl

-- a claim more
at_least : (n m : ℕ) → nat_le n m ≡ true → m < n → ⊥
at_least n m h lt = grind (arith, nat_tests)

same_both : (xs ys : List ℕ) → bytes_eq xs ys ≡ true → bytes_eq ys xs ≡ true
same_both xs ys h = (bytes_eq-Decides ys xs).1 (sym ((bytes_eq-Decides xs ys).0 h))

sided : (xs ys : List ℕ) (b : Bool) → bytes_eq xs ys ≡ b → bytes_eq ys xs ≡ false → b ≡ false
sided xs ys false e h = refl
sided xs ys true e h = absurd (let k = same_both xs ys e in cc)

once_more : (texts : List (List ℕ)) (text : List ℕ) → none_twice texts ≡ true → is_claimed text texts ≡ false → none_twice (texts ++ text ∷ []) ≡ true
once_more [] text h new = refl
once_more (first ∷ texts) text h new =
    let p = both (not (is_claimed first texts)) (none_twice texts) h in
    let other = sided first text (bytes_eq first text) refl (or_first (bytes_eq text first) (is_claimed text texts) new) in
    let no : is_claimed first (texts ++ text ∷ []) ≡ false = list_any-append (bytes_eq first) texts (text ∷ []) ∙ neither (is_claimed first texts) (bytes_eq first text || false) (un_not (is_claimed first texts) p.0) (neither (bytes_eq first text) false other refl) in
    and_join _ _ (so_not (is_claimed first (texts ++ text ∷ [])) no) (once_more texts text p.1 (or_second (bytes_eq text first) (is_claimed text texts) new))

step_claims : (c : Scene) (steps : List step.Step) → Claims c → Claims (record c { schedule = steps })
step_claims c steps k = record { from_three = k.from_three; few = k.few; each = k.each; once = k.once }

claim_more : (c : Scene) (text : List ℕ) → Claims c → Fits c (ClaimLine text) → Claims (record c { claims = c.claims ++ text ∷ [] })
claim_more c text k f = record {
  from_three = λ lt. absurd (at_least 3 c.version f.3 lt);
  few = omega (arith, f.1, length-append c.claims (text ∷ []));
  each = all_more (is_claim c) c.claims text k.each f.0;
  once = once_more c.claims text k.once f.2;
}

-- a script that has just begun has no awaits
no_waits : (version : ℕ) → (nat_le 3 version || true) ≡ true
no_waits version = go (nat_le 3 version)
  where
    go : (b : Bool) → (b || true) ≡ true
    go true = refl
    go false = refl

-- a line of the last script more
script_line : (s : State) (change : Script → Script) → s.section ≡ sections.Scripts → Tidy (with_last change s) → Within s
    → (script_keeps s.scene.layout s.scene.version s.scene.sites (last_script s.scene.scripts) ≡ true → script_keeps s.scene.layout s.scene.version s.scene.sites (change (last_script s.scene.scripts)) ≡ true)
    → (waits_keep s.scene.version (last_script s.scene.scripts) ≡ true → waits_keep s.scene.version (change (last_script s.scene.scripts)) ≡ true)
    → Within (with_last change s)
script_line s change e tidy w more waits =
    let b = bound_at sections.Scripts s e w in
    let t = tidy_at sections.Scripts s e w.tidy in
    let now = set s.scene.scripts (length s.scene.scripts - 1) (change (last_script s.scene.scripts)) in
    record {
      tidy = tidy;
      bound = b;
      setup = w.setup;
      few_scripts = omega (arith, w.few_scripts, length-set s.scene.scripts (length s.scene.scripts - 1) (change (last_script s.scene.scripts)));
      scripts = last_more (script_keeps s.scene.layout s.scene.version s.scene.sites) change s.scene.scripts t.0 w.scripts more;
      waits = last_more (waits_keep s.scene.version) change s.scene.scripts t.0 w.waits waits;
      claims = no_claims (with_last change s).scene t.2;
      few_steps = w.few_steps;
      schedule = no_steps s.scene.layout s.scene.sites now s.scene.schedule t.1;
    }

-- a line more
more : (s : State) (x : Line) → Within s → Stays s x → Fits s.scene x → Within (after s x)
more s (VersionLine v) w st f =
    let t = tidy_at sections.Head s st.0 w.tidy in
    record {
      tidy = st.1;
      bound = f;
      setup = w.setup;
      few_scripts = w.few_scripts;
      scripts = no_scripts s.scene.layout v s.scene.sites s.scene.scripts t.1;
      waits = ap (list_all (waits_keep v)) t.1;
      claims = no_claims (after s (VersionLine v)).scene t.3;
      few_steps = w.few_steps;
      schedule = w.schedule;
    }
more s (SitesLine n) w st f =
    let t = tidy_at sections.Sites s st.0.0 w.tidy in
    let b = bound_at sections.Sites s st.0.0 w in
    record {
      tidy = st.1;
      bound = (b.0, b.1, record { from_one = f.0; of_layout = f.1; of_version = f.2 });
      setup = no_setup s.scene.layout n s.scene.setup t.0;
      few_scripts = w.few_scripts;
      scripts = no_scripts s.scene.layout s.scene.version n s.scene.scripts t.1;
      waits = w.waits;
      claims = no_claims (after s (SitesLine n)).scene t.3;
      few_steps = w.few_steps;
      schedule = no_steps s.scene.layout n s.scene.scripts s.scene.schedule t.2;
    }
more s (PortLine u actor capacity) w st f =
    let b = bound_at sections.Setup s st.0.0 w in
    record {
      tidy = st.1;
      bound = b;
      setup = setup_more s.scene.layout s.scene.sites [] s.scene.setup (setups.Port actor capacity) w.setup (f b.2);
      few_scripts = w.few_scripts;
      scripts = w.scripts;
      waits = w.waits;
      claims = no_claims (after s (PortLine u actor capacity)).scene (tidy_at sections.Setup s st.0.0 w.tidy).2;
      few_steps = w.few_steps;
      schedule = w.schedule;
    }
more s (GroupLine u) w st f =
    let b = bound_at sections.Setup s st.0.0 w in
    record {
      tidy = st.1;
      bound = b;
      setup = setup_more s.scene.layout s.scene.sites [] s.scene.setup (setups.Group u.site) w.setup (f b.2);
      few_scripts = w.few_scripts;
      scripts = w.scripts;
      waits = w.waits;
      claims = no_claims (after s (GroupLine u)).scene (tidy_at sections.Setup s st.0.0 w.tidy).2;
      few_steps = w.few_steps;
      schedule = w.schedule;
    }
more s (MemberLine group port) w st f =
    let b = bound_at sections.Setup s st.0.0 w in
    record {
      tidy = st.1;
      bound = b;
      setup = setup_more s.scene.layout s.scene.sites [] s.scene.setup (setups.Member group port) w.setup (f b.2);
      few_scripts = w.few_scripts;
      scripts = w.scripts;
      waits = w.waits;
      claims = no_claims (after s (MemberLine group port)).scene (tidy_at sections.Setup s st.0.0 w.tidy).2;
      few_steps = w.few_steps;
      schedule = w.schedule;
    }
more s (ScriptLine actor) w st f =
    let b = bound_early s st.0 w in
    let none : List Command = [] in
    let script : Script = record { actor = actor; commands = none; waits = [] } in
    record {
      tidy = st.1;
      bound = b;
      setup = w.setup;
      few_scripts = omega (arith, f.1, length-append s.scene.scripts (script ∷ []));
      scripts = all_more (script_keeps s.scene.layout s.scene.version s.scene.sites) s.scene.scripts script w.scripts (and_join _ _ (and_join _ _ (f.0 b.2) refl) refl);
      waits = all_more (waits_keep s.scene.version) s.scene.scripts script w.waits (no_waits s.scene.version);
      claims = no_claims (after s (ScriptLine actor)).scene (early_parts s st.0 w.tidy).1;
      few_steps = w.few_steps;
      schedule = no_steps s.scene.layout s.scene.sites (s.scene.scripts ++ script ∷ []) s.scene.schedule ((early_parts s st.0 w.tidy).0);
    }
more s (CommandLine command) w st f =
    let b = bound_at sections.Scripts s st.0.0 w in
    script_line s (with_command command) st.0.0 st.1 w
    (λ h. script_more s.scene.layout s.scene.version s.scene.sites command (last_script s.scene.scripts) h (f.0 b.2) f.1)
    (waits_command s.scene.version command (last_script s.scene.scripts))
more s (AwaitLine port) w st f =
    script_line s (with_await port) st.0.0 st.1 w
    (λ h. script_more s.scene.layout s.scene.version s.scene.sites (commands.Take port) (last_script s.scene.scripts) h f.0 f.1)
    (waits_await s.scene.version port (last_script s.scene.scripts) f.2)
more s (ClaimLine text) w st f = record {
  tidy = st.1;
  bound = bound_before s st.0 w;
  setup = w.setup;
  few_scripts = w.few_scripts;
  scripts = w.scripts;
  waits = w.waits;
  claims = claim_more s.scene text w.claims f;
  few_steps = w.few_steps;
  schedule = w.schedule;
}
more s ScheduleLine w st f = record {
  tidy = st.1;
  bound = bound_before s st.0.0 w;
  setup = w.setup;
  few_scripts = w.few_scripts;
  scripts = w.scripts;
  waits = w.waits;
  claims = w.claims;
  few_steps = w.few_steps;
  schedule = w.schedule;
}
more s (StepLine step) w st f = record {
  tidy = st.1;
  bound = bound_at sections.Schedule s st.0 w;
  setup = w.setup;
  few_scripts = w.few_scripts;
  scripts = w.scripts;
  waits = w.waits;
  claims = step_claims s.scene (s.scene.schedule ++ step ∷ []) w.claims;
  few_steps = omega (arith, f.1, length-append s.scene.schedule (step ∷ []));
  schedule = schedule_more s.scene.layout s.scene.sites s.scene.scripts [] s.scene.schedule step w.schedule f.0;
}
more s EndLine w st f = record {
  tidy = st.1;
  bound = bound_at sections.Schedule s st.0 w;
  setup = w.setup;
  few_scripts = w.few_scripts;
  scripts = w.scripts;
  waits = w.waits;
  claims = w.claims;
  few_steps = w.few_steps;
  schedule = w.schedule;
}

one_more : (s u : State) (line : List ℕ) → Within s → (s ≡ u) ⊎ Said s line u → Within u
one_more s u line w (inl e) = subst Within e w
one_more s u line w (inr d) = subst Within (sym d.so) (more s d.line w d.stays (fits s.scene d.line d.tested))

all_more_lines : (s t : State) (lines : List (List ℕ)) → Within s → Pass s lines t → Within t
all_more_lines s t [] w e = subst Within e w
all_more_lines s t (line ∷ lines) w e = all_more_lines e.0 t lines (one_more s e.0 line w (line_said s e.0 line (is_skipped line) (is_text line) refl refl w.tidy e.1)) e.2

ended_keeps : (t : State) → t.section ≡ sections.Ended → Within t → Keeps t.scene
ended_keeps t e w =
    let b = bound_at sections.Ended t e w in
    record {
      version_from_one = b.0;
      version_to_three = b.1;
      sites_from_one = b.2.from_one;
      sites_of_layout = b.2.of_layout;
      sites_of_version = b.2.of_version;
      setup = w.setup;
      few_scripts = w.few_scripts;
      scripts = w.scripts;
      waits = w.waits;
      claims_from_three = w.claims.from_three;
      few_claims = w.claims.few;
      claims = w.claims.each;
      claims_once = w.claims.once;
      few_steps = w.few_steps;
      schedule = w.schedule;
    }

pub kept : ReadKeeps
kept l text c h =
    let i = inv_text l text c h in
    let p = inv_judge 1 (opening l) (lines text) c i.1 in
    let w = all_more_lines (opening l) p.0 (lines text) (record { tidy = (refl, refl, refl, refl); bound = tt; setup = refl; few_scripts = omega arith; scripts = refl; waits = refl; claims = no_claims (opening l).scene refl; few_steps = omega arith; schedule = refl }) p.1 in
    subst Keeps p.3 (ended_keeps p.0 (section_ended p.0.section p.2) w)

pub old_do_not_wait : OldTextsDoNotWait
old_do_not_wait l text c h old = no_script_waits c.version c.scripts old (kept l text c h).waits
