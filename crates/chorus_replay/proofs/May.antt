-- Each task of a replay may be done when those before it are carried out.
use Rattle.std.proofs.Common.{ℕ, zero, suc, ◌≡◌, ◌<◌, ◌≤◌, ◌==◌, ◌+◌, ◌-◌, ◌*◌, nat_le, nat_lt, Bool, true, false, not, ◌&&◌, cond, List, [], ◌∷◌, ◌++◌, length, map, drop, count_by, option_to_list, Option, Some, None, slice_get, refl, sym, ◌∙◌, ap, ap₂, subst, append-nil, inl, inr, arith, mul-le-mul_right}
use Rattle.std.specs.List.{list_all}
use Rattle.std.specs.Option.{option_map}
use Rattle.std.proofs.lemmas.Bool.{and_parts, and_from, leb-true, le-leb}
use Rattle.std.proofs.lemmas.List.{map-append, length-reverse, length-map}
use Rattle.std.proofs.lemmas.Option.{slice_get-map, slice_get-get_or}
use Rattle.chorus_ui.specs.declared.ui.Ui.{Ui}
use Rattle.chorus_ui.specs.declared.layout.Layout.{Layout}
use Rattle.chorus_ui.specs.declared.limits.TheConstants.{PORTS_PER_SITE_LIMIT, MEMBERS_LIMIT, BODY_LIMIT}
use Rattle.chorus_ui.specs.Layout.{IsLayout, has_actor, has_place, places}
use Rattle.chorus_entry.specs.declared.command.Command.{Command}
use Rattle.chorus_ui.specs.NameKind.{is_actor, is_group, is_port}
use Rattle.chorus_entry.specs.Command.{is_capacity, has_body_in_limit, meets_conditions}
use Rattle.chorus_entry.specs.Members.{is_member}
use Rattle.law_network.specs.Network.{Enter, Act, schedule}
use Rattle.law_network.specs.Calls.{starting, first_actor, last_of}
use Rattle.law_network.specs.Tasks.{Do, Drain, MayAll, commands_in}
use Rattle.chorus_scene.specs.declared.scenario.SetupLine.{SetupLine}
use Rattle.chorus_scene.specs.declared.scenario.SetupLine.TheVariants as setups
use Rattle.chorus_scene.specs.declared.scenario.Step as step
use Rattle.chorus_scene.specs.declared.scenario.Step.TheVariants as steps
use Rattle.chorus_scene.specs.declared.limits.TheConstants.{COMMANDS_LIMIT, VERSION_ONE_BODY}
use Rattle.chorus_scene.specs.Scene.{Scene, Script}
use Rattle.chorus_scene.specs.Making.{next_port, made_after, members_of}
use Rattle.chorus_scene.specs.Grammar.{most_bytes, script_at, no_script, is_step}
use Rattle.chorus_scene.specs.Limits.{Keeps, is_site, is_actor_of, is_place_of, command_is_of, bytes_sent, is_of_version, command_keeps, script_keeps, setup_line_keeps, setup_keeps, step_keeps, schedule_keeps}
use Rattle.chorus_report.specs.Setup.{setup_command, setup_commands}
use Rattle.chorus_replay.specs.Order.{in_setup, set_up, entering, step_tasks, in_schedule, then_drain, left_from, opening_order, order, tasks}
use Rattle.chorus_replay.proofs.Given.{commands-given, commands-none}
use Rattle.chorus_replay.proofs.Callers.{actors_by, actors-append, acts-none, entering-all, step-none, schedule-none, drains-none, left-none}
use Rattle.chorus_replay.specs.declared.loading.TheConstants.{LOAD_LIMIT}
use Rattle.chorus_replay.proofs.Needs.{Needs, HasAll, NeedsOn, not-false, all-of, on-append, on-still, may-all}

-- What the limits of a scenario say.

pub all-get : {X : Type 0} (p : X → Bool) (xs : List X) (i : ℕ) (x : X) → list_all p xs ≡ true → slice_get xs i ≡ Some x → p x ≡ true
all-get p [] i x all found = cc
all-get p (y ∷ ys) zero x all found =
    let e : y ≡ x = cc in
    ap p (sym e) ∙ (and_parts (p y) (list_all p ys) all).0
all-get p (y ∷ ys) (suc i) x all found = all-get p ys i x (and_parts (p y) (list_all p ys) all).1 found

pub all-drop : {X : Type 0} (p : X → Bool) (n : ℕ) (xs : List X) → list_all p xs ≡ true → list_all p (drop n xs) ≡ true
all-drop p zero xs all = all
all-drop p (suc n) [] all = refl
all-drop p (suc n) (x ∷ xs) all = all-drop p n xs (and_parts (p x) (list_all p xs) all).1

body-fits : (version m : ℕ) → nat_le m (most_bytes version) ≡ true → nat_le m BODY_LIMIT ≡ true
body-fits version m h = go (version == 1) h
  where
    shorter : (m : ℕ) → m ≤ VERSION_ONE_BODY → m ≤ BODY_LIMIT
    shorter m h = omega arith

    go : (b : Bool) → nat_le m (cond b VERSION_ONE_BODY BODY_LIMIT) ≡ true → nat_le m BODY_LIMIT ≡ true
    go true h = le-leb m BODY_LIMIT (shorter m (leb-true m VERSION_ONE_BODY h))
    go false h = h

pub command-fits : (version : ℕ) (c : Command) → nat_le (length (bytes_sent c)) (most_bytes version) ≡ true → has_body_in_limit c ≡ true
command-fits version (Command.Send dest body) h = body-fits version (length body) h
command-fits version (Command.Call port back body) h = body-fits version (length body) h
command-fits version (Command.Reply body) h = body-fits version (length body) h
command-fits version c h = refl

pub place-fits : (l : Layout) (n p : ℕ) → n ≤ l.sites → is_place_of l n p ≡ true → has_place l p ≡ true
place-fits l n p h is =
    let two = and_parts (nat_le 1 p) (nat_le p (n * l.turns)) is in
    let high = leb-true p (n * l.turns) two.1 in
    let wide = mul-le-mul_right l.turns h in
    and_from (nat_le 1 p) (nat_le p (places l)) two.0 (le-leb p (places l) (omega (arith, high, wide)))

module _ (l : Layout) (version n : ℕ) (N : ℕ) (some : 0 < N) where
  pub command-needs : (k : ℕ) (c : Command) → k < N → 1 ≤ k → command_keeps l version n c ≡ true → Needs l N (Do (Act k c))
  command-needs k c came low keeps =
      let bytes = nat_le (length (bytes_sent c)) (most_bytes version) in
      let of = command_is_of l n c in
      let four = and_parts (meets_conditions c && of && bytes) (is_of_version version c) keeps in
      let three = and_parts (meets_conditions c && of) bytes four.0 in
      let two = and_parts (meets_conditions c) of three.0 in
      (came, (two.0, (command-fits version c three.1, inr low)))

  -- the commands that are left of a script, and a drain behind each
  drains-need : (k : ℕ) (cs : List Command) → k < N → 1 ≤ k → list_all (command_keeps l version n) cs ≡ true → NeedsOn l N (then_drain k cs)
  drains-need k [] came low keeps = tt
  drains-need k (c ∷ cs) came low keeps =
      let two = and_parts (command_keeps l version n c) (list_all (command_keeps l version n) cs) keeps in
      (command-needs k c came low two.0, (some, drains-need k cs came low two.1))

  pub script-commands : (script : Script) → script_keeps l version n script ≡ true → list_all (command_keeps l version n) script.commands ≡ true
  script-commands script keeps =
      (and_parts (is_actor_of l n script.actor && nat_le (length script.commands) COMMANDS_LIMIT) (list_all (command_keeps l version n) script.commands) keeps).1

  left-needs : (schedule : List step.Step) (k : ℕ) (scripts : List Script) → k + length scripts ≤ N → 1 ≤ k → list_all (script_keeps l version n) scripts ≡ true → NeedsOn l N (left_from schedule k scripts)
  left-needs schedule k [] high low keeps = tt
  left-needs schedule k (script ∷ scripts) high low keeps =
      let two = and_parts (script_keeps l version n script) (list_all (script_keeps l version n) scripts) keeps in
      let cs = drop (count_by (is_step k) schedule) script.commands in
      let came : k < N = first k (length scripts) high in
      on-still l N (then_drain k cs) (left_from schedule (k + 1) scripts) (drains-none k cs)
      (drains-need k cs came low (all-drop (command_keeps l version n) (count_by (is_step k) schedule) script.commands (script-commands script two.0)))
      (left-needs schedule (k + 1) scripts (rest k (length scripts) high) (omega (arith, low)) two.1)
    where
      first : (k m : ℕ) → k + suc m ≤ N → k < N
      first k m h = omega arith

      rest : (k m : ℕ) → k + suc m ≤ N → k + 1 + m ≤ N
      rest k m h = omega arith

  module _ (scripts : List Script) (all : list_all (script_keeps l version n) scripts ≡ true) (sites : n ≤ l.sites) (count : suc (length scripts) ≤ N) where
    option-needs : (k : ℕ) (o : Option Command) → k < N → 1 ≤ k → ((c : Command) → o ≡ Some c → command_keeps l version n c ≡ true) → NeedsOn l N (option_to_list (option_map (λ (command : Command). Do (Act k command)) o))
    option-needs k None came low keeps = tt
    option-needs k (Some c) came low keeps = (command-needs k c came low (keeps c refl), tt)

    step-needs : (before : List step.Step) (s : step.Step) → step_keeps l n scripts before s ≡ true → NeedsOn l N (step_tasks scripts before s)
    step-needs before (steps.Step k) keeps =
        let m = count_by (is_step k) before in
        let cs = (script_at k scripts).commands in
        let outer = and_parts (nat_le 1 k && nat_le k (length scripts)) (nat_lt m (length cs)) keeps in
        let inner = and_parts (nat_le 1 k) (nat_le k (length scripts)) outer.0 in
        let low = leb-true 1 k inner.0 in
        let high = leb-true k (length scripts) inner.1 in
        let found = slice_get-get_or scripts (k - 1) no_script (omega (arith, low, high)) in
        let script = all-get (script_keeps l version n) scripts (k - 1) (script_at k scripts) all found in
        let commands = script-commands (script_at k scripts) script in
        option-needs k (slice_get cs m) (omega (arith, high, count)) low (λ c e. all-get (command_keeps l version n) cs m c commands e)
    step-needs before (steps.Deliver from to) keeps =
        let outer = and_parts (is_place_of l n from && is_place_of l n to) (not (from == to)) keeps in
        let inner = and_parts (is_place_of l n from) (is_place_of l n to) outer.0 in
        ((some, (place-fits l n from sites inner.0, (place-fits l n to sites inner.1, not-false (from == to) outer.1))), tt)
    step-needs before steps.Drain keeps = (some, tt)

    schedule-needs : (before rest : List step.Step) → schedule_keeps l n scripts before rest ≡ true → NeedsOn l N (in_schedule scripts before rest)
    schedule-needs before [] keeps = tt
    schedule-needs before (s ∷ rest) keeps =
        let two = and_parts (step_keeps l n scripts before s) (schedule_keeps l n scripts (before ++ s ∷ []) rest) keeps in
        on-still l N (step_tasks scripts before s) (in_schedule scripts (before ++ s ∷ []) rest) (step-none scripts before s)
        (step-needs before s two.0) (schedule-needs (before ++ s ∷ []) rest two.1)

-- The setup and the scripts' callers.

actor-parts : (l : Layout) (n : ℕ) (u : Ui) → is_actor_of l n u ≡ true → (is_actor u ≡ true) × (has_actor l u ≡ true)
actor-parts l n u h =
    let outer = and_parts (is_actor u && has_actor l u) (is_site n u.site) h in and_parts (is_actor u) (has_actor l u) outer.0

setup-needs : (l : Layout) (n : ℕ) (before lines : List SetupLine) → setup_keeps l n before lines ≡ true → NeedsOn l 1 (map Do (map (Act 0) (map setup_command lines)))
setup-needs l n before [] keeps = tt
setup-needs l n before (setups.Port actor capacity ∷ lines) keeps =
    let line = setups.Port actor capacity in
    let k = and_parts (setup_line_keeps l n before line) (setup_keeps l n (before ++ line ∷ []) lines) keeps in
    let numbered = nat_le (next_port l actor (made_after l [] before)).number PORTS_PER_SITE_LIMIT in
    let outer = and_parts (is_capacity capacity && is_actor_of l n actor) numbered k.0 in
    let inner = and_parts (is_capacity capacity) (is_actor_of l n actor) outer.0 in (
      (omega arith, (and_from (is_actor actor) (is_capacity capacity) (actor-parts l n actor inner.1).0 inner.0, (refl, inl refl))),
      setup-needs l n (before ++ line ∷ []) lines k.1,
    )
setup-needs l n before (setups.Group site ∷ lines) keeps =
    let line = setups.Group site in
    let k = and_parts (setup_line_keeps l n before line) (setup_keeps l n (before ++ line ∷ []) lines) keeps in
    ((omega arith, (refl, (refl, inl refl))), setup-needs l n (before ++ line ∷ []) lines k.1)
setup-needs l n before (setups.Member group port ∷ lines) keeps =
    let line = setups.Member group port in
    let k = and_parts (setup_line_keeps l n before line) (setup_keeps l n (before ++ line ∷ []) lines) keeps in
    let two = is_group group && is_port port in
    let four = two && is_site n group.site && is_site n port.site in
    let six = four && is_member group (made_after l [] before) && is_member port (made_after l [] before) in
    let seven = six && nat_lt (length (members_of group before)) MEMBERS_LIMIT in
    let h7 = (and_parts seven (not (is_member port (members_of group before))) k.0).0 in
    let h6 = (and_parts six (nat_lt (length (members_of group before)) MEMBERS_LIMIT) h7).0 in
    let h5 = (and_parts (four && is_member group (made_after l [] before)) (is_member port (made_after l [] before)) h6).0 in
    let h4 = (and_parts four (is_member group (made_after l [] before)) h5).0 in
    let h3 = (and_parts (two && is_site n group.site) (is_site n port.site) h4).0 in
    let h2 = (and_parts two (is_site n group.site) h3).0 in
    ((omega arith, (h2, (refl, inl refl))), setup-needs l n (before ++ line ∷ []) lines k.1)

entering-needs : (l : Layout) (version n m last : ℕ) (scripts : List Script) → list_all (script_keeps l version n) scripts ≡ true → NeedsOn l m (map Do (map (λ (script : Script). Enter script.actor last) scripts))
entering-needs l version n m last [] keeps = tt
entering-needs l version n m last (script ∷ scripts) keeps =
    let k = and_parts (script_keeps l version n script) (list_all (script_keeps l version n) scripts) keeps in
    let few = nat_le (length script.commands) COMMANDS_LIMIT in
    let outer = and_parts (is_actor_of l n script.actor && few) (list_all (command_keeps l version n) script.commands) k.0 in
    (actor-parts l n script.actor (and_parts (is_actor_of l n script.actor) few outer.0).0, entering-needs l version n (suc m) last scripts k.1)

-- All of it.

pub first-there : (l : Layout) → IsLayout l → has_actor l first_actor ≡ true
first-there l shape =
    let low = shape.sites_from_one in
    let site : nat_le 1 l.sites ≡ true = le-leb 1 l.sites low in
    ap (λ b. b && true) (ap (λ b. b && true) site)

-- the start of the sites, the setup and the callers
pub opening-needs : (c : Scene) → IsLayout c.layout → Keeps c → NeedsOn c.layout 0 (opening_order c)
opening-needs c shape keeps =
    let l = c.layout in
    let last = last_of (slice_get (set_up c).callers 0) in
    let split = map-append Do (in_setup c) (entering c) in
    let seats : NeedsOn l 1 (map Do (in_setup c ++ entering c)) =
    subst (NeedsOn l 1) (sym split)
    (on-still l 1 (map Do (in_setup c)) (map Do (entering c)) (acts-none 0 (setup_commands c)) (setup-needs l c.sites [] c.setup keeps.setup)
    (entering-needs l c.version c.sites 1 last c.scripts keeps.scripts)) in
    ((refl, first-there l shape), seats)

needs-order : (c : Scene) → IsLayout c.layout → Keeps c → NeedsOn c.layout 0 (order c)
needs-order c shape keeps =
    let l = c.layout in
    let N = suc (length c.scripts) in
    let some : 0 < N = above (length c.scripts) in
    let later = map Do (in_setup c ++ entering c) in
    let scheduled = in_schedule c.scripts [] c.schedule in
    let rest = left_from c.schedule 1 c.scripts in
    let entered = entering-all (last_of (slice_get (set_up c).callers 0)) c.scripts in
    let actors = length-map c.scripts (λ (script : Script). script.actor) in
    let split = map-append Do (in_setup c) (entering c) in
    let none = acts-none 0 (setup_commands c) in
    let seats : NeedsOn l 1 later =
    subst (NeedsOn l 1) (sym split)
    (on-still l 1 (map Do (in_setup c)) (map Do (entering c)) none (setup-needs l c.sites [] c.setup keeps.setup)
    (entering-needs l c.version c.sites 1 (last_of (slice_get (set_up c).callers 0)) c.scripts keeps.scripts)) in
    let come : length (actors_by later) ≡ length c.scripts =
    ap (λ z. length (actors_by z)) split
    ∙ ap length (actors-append (map Do (in_setup c)) (map Do (entering c)) ∙ ap₂ (λ xs ys. xs ++ ys) none entered)
    ∙ actors in
    let front : NeedsOn l 0 (map Do (starting ∷ in_setup c ++ entering c)) = ((refl, first-there l shape), seats) in
    let two : NeedsOn l 0 (map Do (starting ∷ in_setup c ++ entering c) ++ scheduled) =
    on-append l 0 N (map Do (starting ∷ in_setup c ++ entering c)) scheduled (up (length (actors_by later)) (length c.scripts) come) front
    (schedule-needs l c.version c.sites N some c.scripts keeps.scripts keeps.sites_of_layout (same N) [] c.schedule keeps.schedule) in
    let came : length (actors_by (map Do (starting ∷ in_setup c ++ entering c) ++ scheduled)) ≡ N =
    ap length (actors-append (map Do (starting ∷ in_setup c ++ entering c)) scheduled ∙ ap (λ ys. (first_actor ∷ actors_by later) ++ ys) (schedule-none c.scripts [] c.schedule) ∙ append-nil (first_actor ∷ actors_by later))
    ∙ ap suc come in
    let three : NeedsOn l 0 (map Do (starting ∷ in_setup c ++ entering c) ++ scheduled ++ rest) =
    on-append l 0 N (map Do (starting ∷ in_setup c ++ entering c) ++ scheduled) rest (zeroed (length (actors_by (map Do (starting ∷ in_setup c ++ entering c) ++ scheduled))) N came) two
    (left-needs l c.version c.sites N some c.schedule 1 c.scripts (one (length c.scripts)) (omega arith) keeps.scripts) in
    let all : length (actors_by (map Do (starting ∷ in_setup c ++ entering c) ++ scheduled ++ rest)) ≡ N =
    ap length (actors-append (map Do (starting ∷ in_setup c ++ entering c) ++ scheduled) rest ∙ ap (λ ys. actors_by (map Do (starting ∷ in_setup c ++ entering c) ++ scheduled) ++ ys) (left-none c.schedule 1 c.scripts) ∙ append-nil (actors_by (map Do (starting ∷ in_setup c ++ entering c) ++ scheduled)))
    ∙ came in
    on-append l 0 N (map Do (starting ∷ in_setup c ++ entering c) ++ scheduled ++ rest) (Drain 0 ∷ []) (zeroed (length (actors_by (map Do (starting ∷ in_setup c ++ entering c) ++ scheduled ++ rest))) N all) three (some, tt)
  where
    above : (n : ℕ) → 0 < suc n
    above n = omega arith

    same : (n : ℕ) → n ≤ n
    same n = omega arith

    up : (a n : ℕ) → a ≡ n → suc n ≡ suc a + 0
    up a n h = omega arith

    zeroed : (a n : ℕ) → a ≡ n → n ≡ a + 0
    zeroed a n h = omega arith

    one : (n : ℕ) → 1 + n ≤ suc n
    one n = omega arith

pub few-scripts : (l : Layout) (version n i : ℕ) (scripts : List Script) (script : Script) → list_all (script_keeps l version n) scripts ≡ true → slice_get scripts i ≡ Some script → length script.commands ≤ COMMANDS_LIMIT
few-scripts l version n i scripts script keeps found =
    let few = nat_le (length script.commands) COMMANDS_LIMIT in
    let outer = and_parts (is_actor_of l n script.actor && few) (list_all (command_keeps l version n) script.commands) (all-get (script_keeps l version n) scripts i script keeps found) in
    leb-true (length script.commands) COMMANDS_LIMIT (and_parts (is_actor_of l n script.actor) few outer.0).1

-- each task of a scenario that keeps its limits may be done when those before it are carried out
pub tasks-may : (c : Scene) → IsLayout c.layout → Keeps c → MayAll c.layout (tasks c)
tasks-may c shape keeps =
    may-all c.layout shape (tasks c)
    (subst (HasAll c.layout) (append-nil (tasks c)) (all-of c.layout [] (order c) (needs-order c shape keeps) tt))
    few
  where
    few : (k : ℕ) → 1 ≤ k → length (commands_in k (tasks c)) ≤ LOAD_LIMIT
    few zero h = absurd (omega (arith, h))
    few (suc i) h = go (slice_get c.scripts i) refl
      where
        go : (o : Option Script) → slice_get c.scripts i ≡ o → length (commands_in (suc i) (tasks c)) ≤ LOAD_LIMIT
        go None e = (let none = ap length (commands-none c keeps i e) in omega (arith, none))
        go (Some script) e =
            let given = commands-given c keeps (suc i) script.commands (slice_get-map (λ (s : Script). s.commands) c.scripts i ∙ ap (option_map (λ (s : Script). s.commands)) e) in
            let all = ap length given in
            let turned = length-reverse script.commands in
            let limit = few-scripts c.layout c.version c.sites i c.scripts script keeps.scripts e in
            omega (arith, all, turned, limit)
