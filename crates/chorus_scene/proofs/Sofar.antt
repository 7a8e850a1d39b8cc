-- The lines that a scenario is printed as grow by the text of each line that is read.
use Rattle.std.proofs.Common.{◌≡◌, ℕ, zero, suc, ◌+◌, ◌-◌, ◌<◌, true, List, [], ◌∷◌, ◌++◌, ◌⊎◌, inl, inr, length, get_or, set, map, refl, sym, ap, ◌∙◌, arith, append_assoc}
use Rattle.std.specs.Prelude.{codes}
use Rattle.std.specs.List.{flat_map}
use Rattle.std.proofs.lemmas.List.{map_push, append-nil}
use Rattle.chorus_ui.specs.declared.ui.Ui.{Ui}
use Rattle.chorus_ui.specs.declared.layout.Layout.{Layout}
use Rattle.chorus_lines.specs.declared.word.Section.{Section}
use Rattle.chorus_lines.specs.declared.word.Section.TheVariants as sections
use Rattle.chorus_scene.specs.declared.scenario.SetupLine.{SetupLine}
use Rattle.chorus_scene.specs.declared.scenario.SetupLine.TheVariants as setups
use Rattle.chorus_scene.specs.Scene.{Scene, Script}
use Rattle.chorus_scene.specs.Making.{makes, made_after, next_port, next_group}
use Rattle.chorus_scene.specs.Line.{Line, VersionLine, SitesLine, PortLine, GroupLine, MemberLine, ScriptLine, CommandLine, AwaitLine, ClaimLine, ScheduleLine, StepLine, EndLine}
use Rattle.chorus_scene.specs.Grammar.{State, after, made, with_last, with_command, with_await, last_script, no_script}
use Rattle.chorus_scene.proofs.Waits.{waits_below, one_command, one_await}
use Rattle.chorus_scene.specs.Print.{setup_text, setup_texts, script_texts, command_text, await_text, claim_text, step_text, version_text, sites_text, text_of, before_claims, before_schedule, scene_texts}

-- the lines that a scenario so far is printed as
abbrev pub texts_in : Section → Scene → List (List ℕ)
texts_in sections.Head c = []
texts_in sections.Sites c = version_text c.version ∷ []
texts_in sections.Setup c = before_claims c
texts_in sections.Scripts c = before_claims c
texts_in sections.Claims c = before_schedule c
texts_in sections.Schedule c = before_schedule c ++ codes "schedule" ∷ map step_text c.schedule
texts_in sections.Ended c = scene_texts c

setup_more : (l : Layout) (made : List Ui) (lines : List SetupLine) (line : SetupLine) → setup_texts l made (lines ++ line ∷ []) ≡ setup_texts l made lines ++ setup_text l (made_after l made lines) line ∷ []
setup_more l made [] line = refl
setup_more l made (first ∷ lines) line = ap (λ rest. setup_text l made first ∷ rest) (setup_more l (made ++ makes l made first) lines line)

flat_more : (scripts : List Script) (s : Script) → flat_map script_texts (scripts ++ s ∷ []) ≡ flat_map script_texts scripts ++ script_texts s
flat_more [] s = append-nil (script_texts s)
flat_more (x ∷ xs) s = rw (flat_more xs s) (sym (append_assoc (script_texts x) (flat_map script_texts xs) (script_texts s)))

-- the last script is printed with one line more
last_at : (change : Script → Script) (text : List ℕ) (scripts : List Script) (i : ℕ) → i + 1 ≡ length scripts → script_texts (change (get_or scripts i no_script)) ≡ script_texts (get_or scripts i no_script) ++ text ∷ []
    → flat_map script_texts (set scripts i (change (get_or scripts i no_script))) ≡ flat_map script_texts scripts ++ text ∷ []
last_at f t [] i e h = absurd (omega arith)
last_at f t (x ∷ []) zero e h = append-nil (script_texts (f x)) ∙ h ∙ ap (λ rest. rest ++ t ∷ []) (sym (append-nil (script_texts x)))
last_at f t (x ∷ []) (suc i) e h = absurd (omega arith)
last_at f t (x ∷ y ∷ ys) zero e h = absurd (omega arith)
last_at f t (x ∷ y ∷ ys) (suc i) e h = ap (λ rest. script_texts x ++ rest) (last_at f t (y ∷ ys) i (omega arith) h) ∙ sym (append_assoc (script_texts x) (flat_map script_texts (y ∷ ys)) (t ∷ []))

last_more : (change : Script → Script) (text : List ℕ) (scripts : List Script) → 0 < length scripts → script_texts (change (last_script scripts)) ≡ script_texts (last_script scripts) ++ text ∷ []
    → flat_map script_texts (set scripts (length scripts - 1) (change (last_script scripts))) ≡ flat_map script_texts scripts ++ text ∷ []
last_more f t scripts some h = last_at f t scripts (length scripts - 1) (omega arith) h

-- the setup or the scripts, where nothing was claimed yet, or the claims
abbrev pub IsBeforeSchedule : State → Type 0
IsBeforeSchedule s = (((s.section ≡ sections.Setup) ⊎ (s.section ≡ sections.Scripts)) × (s.scene.claims ≡ [])) ⊎ (s.section ≡ sections.Claims)

-- where a line may follow, as far as printing goes
abbrev pub Follows : State → Line → Type 0
Follows s (VersionLine v) = s.section ≡ sections.Head
Follows s (SitesLine n) = (s.section ≡ sections.Sites) × (s.scene.setup ≡ []) × (s.scene.scripts ≡ [])
Follows s (PortLine u actor capacity) = (s.section ≡ sections.Setup) × (s.scene.scripts ≡ []) × (u ≡ next_port s.scene.layout actor (made s.scene))
Follows s (GroupLine u) = (s.section ≡ sections.Setup) × (s.scene.scripts ≡ []) × (u ≡ next_group s.scene.layout u.site (made s.scene))
Follows s (MemberLine group port) = (s.section ≡ sections.Setup) × (s.scene.scripts ≡ [])
Follows s (ScriptLine actor) = (s.section ≡ sections.Setup) ⊎ (s.section ≡ sections.Scripts)
Follows s (CommandLine command) = (s.section ≡ sections.Scripts) × (0 < length s.scene.scripts) × (waits_below (last_script s.scene.scripts) ≡ true)
Follows s (AwaitLine port) = (s.section ≡ sections.Scripts) × (0 < length s.scene.scripts)
Follows s (ClaimLine text) = IsBeforeSchedule s
Follows s ScheduleLine = IsBeforeSchedule s × (s.scene.schedule ≡ [])
Follows s (StepLine step) = s.section ≡ sections.Schedule
Follows s EndLine = s.section ≡ sections.Schedule

early_texts : (s : Section) (c : Scene) → (s ≡ sections.Setup) ⊎ (s ≡ sections.Scripts) → texts_in s c ≡ before_claims c
early_texts s c (inl e) = rw e refl
early_texts s c (inr e) = rw e refl

no_claims : (c : Scene) → c.claims ≡ [] → before_claims c ≡ before_schedule c
no_claims c e = rw e (sym (append-nil (before_claims c)))

texts_before : (s : State) → IsBeforeSchedule s → texts_in s.section s.scene ≡ before_schedule s.scene
texts_before s (inl e) = early_texts s.section s.scene e.0 ∙ no_claims s.scene e.1
texts_before s (inr e) = rw e refl

-- a line of the setup more
setup_grows : (s : State) (line : SetupLine) (text : List ℕ) → s.section ≡ sections.Setup → s.scene.scripts ≡ [] → setup_text s.scene.layout (made s.scene) line ≡ text
    → texts_in sections.Setup (record s.scene { setup = s.scene.setup ++ line ∷ [] }) ≡ texts_in s.section s.scene ++ text ∷ []
setup_grows s line text section scripts same =
    rw (section, scripts) (ap (λ rest. version_text s.scene.version ∷ sites_text s.scene.sites ∷ rest)
    (append-nil (setup_texts s.scene.layout [] (s.scene.setup ++ line ∷ [])) ∙ setup_more s.scene.layout [] s.scene.setup line
    ∙ ap (λ t. setup_texts s.scene.layout [] s.scene.setup ++ t ∷ []) same
    ∙ ap (λ rest. rest ++ text ∷ []) (sym (append-nil (setup_texts s.scene.layout [] s.scene.setup)))))

-- a line of the last script more
script_grows : (s : State) (change : Script → Script) (text : List ℕ) → s.section ≡ sections.Scripts → 0 < length s.scene.scripts → script_texts (change (last_script s.scene.scripts)) ≡ script_texts (last_script s.scene.scripts) ++ text ∷ []
    → texts_in sections.Scripts (with_last change s).scene ≡ texts_in s.section s.scene ++ text ∷ []
script_grows s change text section some more =
    rw section (ap (λ rest. version_text s.scene.version ∷ sites_text s.scene.sites ∷ rest)
    (ap (λ rest. setup_texts s.scene.layout [] s.scene.setup ++ rest) (last_more change text s.scene.scripts some more) ∙ sym (append_assoc (setup_texts s.scene.layout [] s.scene.setup) (flat_map script_texts s.scene.scripts) (text ∷ []))))

pub grows : (s : State) (x : Line) → Follows s x → texts_in (after s x).section (after s x).scene ≡ texts_in s.section s.scene ++ text_of x ∷ []
grows s (VersionLine v) h = rw h refl
grows s (SitesLine n) h = rw (h.0, h.1, h.2) refl
grows s (PortLine u actor capacity) h = setup_grows s (setups.Port actor capacity) (text_of (PortLine u actor capacity)) h.0 h.1 (ap (λ v. text_of (PortLine v actor capacity)) (sym h.2))
grows s (GroupLine u) h = setup_grows s (setups.Group u.site) (text_of (GroupLine u)) h.0 h.1 (ap (λ v. text_of (GroupLine v)) (sym h.2))
grows s (MemberLine group port) h = setup_grows s (setups.Member group port) (text_of (MemberLine group port)) h.0 h.1 refl
grows s (ScriptLine actor) h =
    let e = early_texts s.section s.scene h in
    rw e (ap (λ rest. version_text s.scene.version ∷ sites_text s.scene.sites ∷ rest)
    (ap (λ rest. setup_texts s.scene.layout [] s.scene.setup ++ rest) (flat_more s.scene.scripts (record { actor = actor; commands = []; waits = [] })) ∙ sym (append_assoc (setup_texts s.scene.layout [] s.scene.setup) (flat_map script_texts s.scene.scripts) (text_of (ScriptLine actor) ∷ []))))
grows s (CommandLine command) h =
    script_grows s (with_command command) (command_text command) h.0 h.1 (one_command command (last_script s.scene.scripts) h.2)
grows s (AwaitLine port) h =
    script_grows s (with_await port) (await_text port) h.0 h.1 (one_await port (last_script s.scene.scripts))
grows s (ClaimLine text) h =
    let e = texts_before s h in
    rw e (ap (λ rest. before_claims s.scene ++ rest) (map_push claim_text s.scene.claims text) ∙ sym (append_assoc (before_claims s.scene) (map claim_text s.scene.claims) (claim_text text ∷ [])))
grows s ScheduleLine h = let e = texts_before s h.0 in rw (e, h.1) refl
grows s (StepLine step) h = rw h (ap (λ rest. before_schedule s.scene ++ text_of ScheduleLine ∷ rest) (map_push step_text s.scene.schedule step) ∙ sym (append_assoc (before_schedule s.scene) (text_of ScheduleLine ∷ map step_text s.scene.schedule) (step_text step ∷ [])))
grows s EndLine h = rw h refl
