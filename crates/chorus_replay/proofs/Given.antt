-- The commands of each seat in the order of a replay: those of the setup for seat 0, and those of script k for seat k.
use Rattle.std.proofs.Common.{ℕ, zero, suc, ◌≡◌, ◌<◌, ◌==◌, ◌+◌, ◌-◌, nat_le, nat_lt, Bool, true, false, ◌&&◌, cond, List, [], ◌∷◌, ◌++◌, length, map, take, drop, reverse, get_or, count_by, option_to_list, Option, Some, None, slice_get, refl, sym, ◌∙◌, ap, ap₂, subst, append_assoc, append-nil, take-append-drop, arith}
use Rattle.std.specs.Option.{option_map}
use Rattle.std.proofs.lemmas.Bool.{and_parts, eqb-true, eq-eqb, ne_eqb, ltb-true}
use Rattle.std.proofs.lemmas.List.{map-append, reverse-append, take_more}
use Rattle.std.proofs.lemmas.List.Sums.{sum_by-append}
use Rattle.std.proofs.lemmas.Option.{slice_get-map, slice_get-get_or, get_or_from_slice_get}
use Rattle.chorus_ui.specs.declared.layout.Layout.{Layout}
use Rattle.chorus_entry.specs.declared.command.Command.{Command}
use Rattle.law_network.specs.Network.{Enter, Act, Deliver, See}
use Rattle.law_network.specs.Tasks.{Task, Do, Drain, commands_in}
use Rattle.chorus_scene.specs.declared.scenario.Step as step
use Rattle.chorus_scene.specs.declared.scenario.Step.TheVariants as steps
use Rattle.chorus_scene.specs.Scene.{Scene, Script}
use Rattle.chorus_scene.specs.Grammar.{script_at, no_script, is_step}
use Rattle.chorus_scene.specs.Limits.{Keeps, step_keeps, schedule_keeps}
use Rattle.chorus_report.specs.Setup.{setup_commands}
use Rattle.chorus_replay.specs.Order.{in_setup, entering, step_tasks, in_schedule, then_drain, left_from, order, tasks}
use Rattle.chorus_report.specs.Headline.{commands_by}

-- Tasks one after the other, and in the other order.

append-case : (b : Bool) (c : Command) (xs ys zs : List Command) → xs ≡ ys ++ zs → cond b (c ∷ xs) xs ≡ cond b (c ∷ ys) ys ++ zs
append-case true c xs ys zs h = ap (λ z. c ∷ z) h
append-case false c xs ys zs h = h

pub commands-append : (k : ℕ) (es fs : List Task) → commands_in k (es ++ fs) ≡ commands_in k es ++ commands_in k fs
commands-append k [] fs = refl
commands-append k (Drain s ∷ es) fs = commands-append k es fs
commands-append k (Do (Enter actor last) ∷ es) fs = commands-append k es fs
commands-append k (Do (Deliver s a b) ∷ es) fs = commands-append k es fs
commands-append k (Do (See s clock) ∷ es) fs = commands-append k es fs
commands-append k (Do (Act s c) ∷ es) fs = append-case (s == k) c (commands_in k (es ++ fs)) (commands_in k es) (commands_in k fs) (commands-append k es fs)

last-case : (b : Bool) (c : Command) (cs : List Command) → reverse cs ++ cond b (c ∷ []) [] ≡ reverse (cond b (c ∷ cs) cs)
last-case true c cs = sym (reverse-append (c ∷ []) cs)
last-case false c cs = append-nil (reverse cs)

last-one : (k : ℕ) (e : Task) (es : List Task) → reverse (commands_in k es) ++ commands_in k (e ∷ []) ≡ reverse (commands_in k (e ∷ es))
last-one k (Drain s) es = append-nil (reverse (commands_in k es))
last-one k (Do (Enter actor last)) es = append-nil (reverse (commands_in k es))
last-one k (Do (Deliver s a b)) es = append-nil (reverse (commands_in k es))
last-one k (Do (See s clock)) es = append-nil (reverse (commands_in k es))
last-one k (Do (Act s c)) es = last-case (s == k) c (commands_in k es)

pub commands-reverse : (k : ℕ) (es : List Task) → commands_in k (reverse es) ≡ reverse (commands_in k es)
commands-reverse k [] = refl
commands-reverse k (e ∷ es) =
    ap (commands_in k) (reverse-append (e ∷ []) es)
    ∙ (commands-append k (reverse es) (e ∷ [])
    ∙ (ap (λ z. z ++ commands_in k (e ∷ [])) (commands-reverse k es)
    ∙ last-one k e es))

-- The commands of one seat, and seats that are entered.

pub own-acts : (k s : ℕ) (cs : List Command) → (s == k) ≡ true → commands_in k (map Do (map (Act s) cs)) ≡ cs
own-acts k s [] e = refl
own-acts k s (c ∷ cs) e =
    let rest = commands_in k (map Do (map (Act s) cs)) in
    ap (λ b. cond b (c ∷ rest) rest) e ∙ ap (λ z. c ∷ z) (own-acts k s cs e)

pub other-acts : (k s : ℕ) (cs : List Command) → (s == k) ≡ false → commands_in k (map Do (map (Act s) cs)) ≡ []
other-acts k s [] e = refl
other-acts k s (c ∷ cs) e =
    let rest = commands_in k (map Do (map (Act s) cs)) in
    ap (λ b. cond b (c ∷ rest) rest) e ∙ other-acts k s cs e

pub no-entering : (k last : ℕ) (scripts : List Script) → commands_in k (map Do (map (λ (script : Script). Enter script.actor last) scripts)) ≡ []
no-entering k last [] = refl
no-entering k last (script ∷ scripts) = no-entering k last scripts

-- A step.

own-one : (k : ℕ) (o : Option Command) (x : Command) → o ≡ Some x → commands_in k (option_to_list (option_map (λ (command : Command). Do (Act k command)) o)) ≡ x ∷ []
own-one k o x h =
    ap (λ p. commands_in k (option_to_list (option_map (λ (command : Command). Do (Act k command)) p))) h
    ∙ ap (λ b. cond b (x ∷ []) []) (eq-eqb k k refl)

other-one : (k j : ℕ) (o : Option Command) → (j == k) ≡ false → commands_in k (option_to_list (option_map (λ (command : Command). Do (Act j command)) o)) ≡ []
other-one k j None e = refl
other-one k j (Some x) e = ap (λ b. cond b (x ∷ []) []) e

-- one step more is counted where it is one of the script
pub count-more : (p : step.Step → Bool) (before : List step.Step) (s : step.Step) (b : Bool) → p s ≡ b → count_by p (before ++ s ∷ []) ≡ count_by p before + cond b 1 0
count-more p before s b e =
    let one : count_by p (s ∷ []) ≡ cond b 1 0 = ap (λ z. 0 + cond z 1 0) e ∙ plus (cond b 1 0) in
    sum_by-append (λ x. cond (p x) 1 0) before (s ∷ []) ∙ ap (λ z. count_by p before + z) one
  where
    plus : (n : ℕ) → 0 + n ≡ n
    plus n = omega arith

module _ (l : Layout) (n : ℕ) (scripts : List Script) where
  -- no step is one of seat 0
  none-performed : (before : List step.Step) (s : step.Step) → step_keeps l n scripts before s ≡ true → commands_in 0 (step_tasks scripts before s) ≡ []
  none-performed before (steps.Step k) h =
      let outer = and_parts (nat_le 1 k && nat_le k (length scripts)) (nat_lt (count_by (is_step k) before) (length (script_at k scripts).commands)) h in
      let inner = and_parts (nat_le 1 k) (nat_le k (length scripts)) outer.0 in
      other-one 0 k (slice_get (script_at k scripts).commands (count_by (is_step k) before)) (above k inner.0)
    where
      above : (k : ℕ) → nat_le 1 k ≡ true → (k == 0) ≡ false
      above k h = grind arith
  none-performed before (steps.Deliver from to) h = refl
  none-performed before steps.Drain h = refl

  none-scheduled : (before rest : List step.Step) → schedule_keeps l n scripts before rest ≡ true → commands_in 0 (in_schedule scripts before rest) ≡ []
  none-scheduled before [] h = refl
  none-scheduled before (s ∷ rest) h =
      let parts = and_parts (step_keeps l n scripts before s) (schedule_keeps l n scripts (before ++ s ∷ []) rest) h in
      commands-append 0 (step_tasks scripts before s) (in_schedule scripts (before ++ s ∷ []) rest)
      ∙ ap₂ (λ xs ys. xs ++ ys) (none-performed before s parts.0) (none-scheduled (before ++ s ∷ []) rest parts.1)

  module _ (k : ℕ) where
    abbrev own : List Command
    own = (script_at k scripts).commands

    abbrev so_far : List step.Step → List Command
    so_far before = take (count_by (is_step k) before) own

    -- a step of another script, and none at all
    other-step : (before : List step.Step) (s : step.Step) → is_step k s ≡ false → commands_in k (step_tasks scripts before s) ≡ [] → so_far before ++ commands_in k (step_tasks scripts before s) ≡ so_far (before ++ s ∷ [])
    other-step before s apart none =
        ap (λ z. so_far before ++ z) none
        ∙ (append-nil (so_far before)
        ∙ ap (λ m. take m own) (plus (count_by (is_step k) before) ∙ sym (count-more (is_step k) before s false apart)))
      where
        plus : (m : ℕ) → m ≡ m + 0
        plus m = omega arith

    own-step : (before : List step.Step) → step_keeps l n scripts before (steps.Step k) ≡ true → so_far before ++ commands_in k (step_tasks scripts before (steps.Step k)) ≡ so_far (before ++ steps.Step k ∷ [])
    own-step before h =
        let m = count_by (is_step k) before in
        let left = (and_parts (nat_le 1 k && nat_le k (length scripts)) (nat_lt m (length own)) h).1 in
        let lt : m < length own = ltb-true m (length own) left in
        ap (λ z. so_far before ++ z) (own-one k (slice_get own m) (get_or own m (Command.Retry)) (slice_get-get_or own m Command.Retry lt))
        ∙ (sym (take_more own m Command.Retry lt)
        ∙ ap (λ z. take z own) (sym (count-more (is_step k) before (steps.Step k) true (eq-eqb k k refl))))

    one-step : (before : List step.Step) (s : step.Step) → step_keeps l n scripts before s ≡ true → so_far before ++ commands_in k (step_tasks scripts before s) ≡ so_far (before ++ s ∷ [])
    one-step before (steps.Step j) h = go (j == k) refl
      where
        go : (b : Bool) → (j == k) ≡ b → so_far before ++ commands_in k (step_tasks scripts before (steps.Step j)) ≡ so_far (before ++ steps.Step j ∷ [])
        go true e =
            subst (λ m. step_keeps l n scripts before (steps.Step m) ≡ true → so_far before ++ commands_in k (step_tasks scripts before (steps.Step m)) ≡ so_far (before ++ steps.Step m ∷ []))
            (sym (eqb-true j k e)) (own-step before) h
        go false e = other-step before (steps.Step j) e (other-one k j (slice_get (script_at j scripts).commands (count_by (is_step j) before)) e)
    one-step before (steps.Deliver from to) h = other-step before (steps.Deliver from to) refl refl
    one-step before steps.Drain h = other-step before steps.Drain refl refl

    -- so many commands of the script as it has steps, the first ones
    scheduled : (before rest : List step.Step) → schedule_keeps l n scripts before rest ≡ true → so_far before ++ commands_in k (in_schedule scripts before rest) ≡ so_far (before ++ rest)
    scheduled before [] h = append-nil (so_far before) ∙ ap so_far (sym (append-nil before))
    scheduled before (s ∷ rest) h =
        let parts = and_parts (step_keeps l n scripts before s) (schedule_keeps l n scripts (before ++ s ∷ []) rest) h in
        let now = commands_in k (step_tasks scripts before s) in
        let later = commands_in k (in_schedule scripts (before ++ s ∷ []) rest) in
        ap (λ z. so_far before ++ z) (commands-append k (step_tasks scripts before s) (in_schedule scripts (before ++ s ∷ []) rest))
        ∙ (sym (append_assoc (so_far before) now later)
        ∙ (ap (λ z. z ++ later) (one-step before s parts.0)
        ∙ (scheduled (before ++ s ∷ []) rest parts.1
        ∙ ap so_far (append_assoc before (s ∷ []) rest))))

-- What is left.

own-left : (k s : ℕ) (cs : List Command) → (s == k) ≡ true → commands_in k (then_drain s cs) ≡ cs
own-left k s [] e = refl
own-left k s (c ∷ cs) e =
    let rest = commands_in k (then_drain s cs) in
    ap (λ b. cond b (c ∷ rest) rest) e ∙ ap (λ z. c ∷ z) (own-left k s cs e)

other-left : (k s : ℕ) (cs : List Command) → (s == k) ≡ false → commands_in k (then_drain s cs) ≡ []
other-left k s [] e = refl
other-left k s (c ∷ cs) e =
    let rest = commands_in k (then_drain s cs) in
    ap (λ b. cond b (c ∷ rest) rest) e ∙ other-left k s cs e

before-left : (schedule : List step.Step) (j : ℕ) (scripts : List Script) (k : ℕ) → k < j → commands_in k (left_from schedule j scripts) ≡ []
before-left schedule j [] k lt = refl
before-left schedule j (script ∷ scripts) k lt =
    let cs = drop (count_by (is_step j) schedule) script.commands in
    commands-append k (then_drain j cs) (left_from schedule (j + 1) scripts)
    ∙ ap₂ (λ xs ys. xs ++ ys) (other-left k j cs (ne_eqb j k (λ e. omega arith))) (before-left schedule (j + 1) scripts k (omega arith))

left : (schedule : List step.Step) (j i k : ℕ) (scripts : List Script) (script : Script) → slice_get scripts i ≡ Some script → k ≡ j + i → commands_in k (left_from schedule j scripts) ≡ drop (count_by (is_step k) schedule) script.commands
left schedule j i k [] script h e = cc
left schedule j zero k (first ∷ scripts) script h e =
    let cs = drop (count_by (is_step j) schedule) first.commands in
    let same : first ≡ script = cc in
    let here : j ≡ k = omega arith in
    commands-append k (then_drain j cs) (left_from schedule (j + 1) scripts)
    ∙ (ap₂ (λ xs ys. xs ++ ys) (own-left k j cs (eq-eqb j k here)) (before-left schedule (j + 1) scripts k (omega arith))
    ∙ (append-nil cs
    ∙ ap₂ (λ m s. drop (count_by (is_step m) schedule) s.commands) here same))
left schedule j (suc i) k (first ∷ scripts) script h e =
    let cs = drop (count_by (is_step j) schedule) first.commands in
    commands-append k (then_drain j cs) (left_from schedule (j + 1) scripts)
    ∙ ap₂ (λ xs ys. xs ++ ys) (other-left k j cs (ne_eqb j k (λ same. omega arith))) (left schedule (j + 1) i k scripts script h (omega arith))

-- All of them.

abbrev all_of : (k : ℕ) (c : Scene) → List Command
all_of k c = commands_in k (map Do (in_setup c)) ++ commands_in k (map Do (entering c)) ++ commands_in k (in_schedule c.scripts [] c.schedule) ++ commands_in k (left_from c.schedule 1 c.scripts)

commands-order : (c : Scene) (k : ℕ) → commands_in k (order c) ≡ all_of k c
commands-order c k =
    let scheduled = in_schedule c.scripts [] c.schedule in
    let rest = left_from c.schedule 1 c.scripts in
    let first = map Do (in_setup c ++ entering c) in
    commands-append k (first ++ scheduled ++ rest) (Drain 0 ∷ [])
    ∙ append-nil (commands_in k (first ++ scheduled ++ rest))
    ∙ commands-append k (first ++ scheduled) rest
    ∙ ap (λ z. z ++ commands_in k rest)
    (commands-append k first scheduled
    ∙ ap (λ z. z ++ commands_in k scheduled)
    (ap (commands_in k) (map-append Do (in_setup c) (entering c)) ∙ commands-append k (map Do (in_setup c)) (map Do (entering c))))

of-setup : (c : Scene) → Keeps c → commands_in 0 (order c) ≡ setup_commands c
of-setup c keeps =
    commands-order c 0
    ∙ (ap₂ (λ xs ys. xs ++ ys)
    (ap₂ (λ xs ys. xs ++ ys)
    (ap₂ (λ xs ys. xs ++ ys) (own-acts 0 0 (setup_commands c) refl) (no-entering 0 _ c.scripts))
    (none-scheduled c.layout c.sites c.scripts [] c.schedule keeps.schedule))
    (before-left c.schedule 1 c.scripts 0 (omega arith))
    ∙ (append-nil (setup_commands c ++ [] ++ []) ∙ (append-nil (setup_commands c ++ []) ∙ append-nil (setup_commands c))))

of-script : (c : Scene) → Keeps c → (i : ℕ) (script : Script) → slice_get c.scripts i ≡ Some script → commands_in (suc i) (order c) ≡ script.commands
of-script c keeps i script h =
    let k = suc i in
    let n = count_by (is_step k) c.schedule in
    let at : script_at k c.scripts ≡ script = ap (λ m. get_or c.scripts m no_script) (less i) ∙ get_or_from_slice_get c.scripts i script no_script h in
    commands-order c k
    ∙ (ap₂ (λ xs ys. xs ++ ys)
    (ap₂ (λ xs ys. xs ++ ys)
    (ap₂ (λ xs ys. xs ++ ys) (other-acts k 0 (setup_commands c) (ne_eqb 0 k (λ e. omega arith))) (no-entering k _ c.scripts))
    (scheduled c.layout c.sites c.scripts k [] c.schedule keeps.schedule ∙ ap (λ (s : Script). take n s.commands) at))
    (left c.schedule 1 i k c.scripts script h (omega arith))
    ∙ take-append-drop n script.commands)
  where
    less : (i : ℕ) → suc i - 1 ≡ i
    less i = omega arith

commands-some : (o : Option Script) (commands : List Command) → option_map (λ (script : Script). script.commands) o ≡ Some commands → (script : Script) × (o ≡ Some script) × (script.commands ≡ commands)
commands-some None commands h = cc
commands-some (Some script) commands h = (script, refl, cc)

in-order : (c : Scene) → Keeps c → (k : ℕ) (commands : List Command) → commands_by c k ≡ Some commands → commands_in k (order c) ≡ commands
in-order c keeps zero commands h =
    let same : setup_commands c ≡ commands = cc in
    of-setup c keeps ∙ same
in-order c keeps (suc i) commands h =
    let found = commands-some (slice_get c.scripts i) commands (sym (slice_get-map (λ (script : Script). script.commands) c.scripts i) ∙ h) in
    of-script c keeps i found.0 found.1 ∙ found.2

-- the tasks give each seat its commands, the latest first
pub commands-given : (c : Scene) → Keeps c → (k : ℕ) (commands : List Command) → commands_by c k ≡ Some commands → commands_in k (tasks c) ≡ reverse commands
commands-given c keeps k commands h = commands-reverse k (order c) ∙ ap reverse (in-order c keeps k commands h)

-- a seat of no script gives none
none-left : (schedule : List step.Step) (j i k : ℕ) (scripts : List Script) → slice_get scripts i ≡ None → k ≡ j + i → commands_in k (left_from schedule j scripts) ≡ []
none-left schedule j i k [] h e = refl
none-left schedule j zero k (first ∷ scripts) h e = absurd (cc)
none-left schedule j (suc i) k (first ∷ scripts) h e =
    let cs = drop (count_by (is_step j) schedule) first.commands in
    commands-append k (then_drain j cs) (left_from schedule (j + 1) scripts)
    ∙ ap₂ (λ xs ys. xs ++ ys) (other-left k j cs (ne_eqb j k (λ same. omega arith))) (none-left schedule (j + 1) i k scripts h (omega arith))

abbrev nothing : List Command
nothing = []

take-none : (n : ℕ) → take n nothing ≡ []
take-none zero = refl
take-none (suc n) = refl

past-end : (scripts : List Script) (i : ℕ) → slice_get scripts i ≡ None → get_or scripts i no_script ≡ no_script
past-end [] i h = refl
past-end (x ∷ xs) zero h = absurd (cc)
past-end (x ∷ xs) (suc i) h = past-end xs i h

pub commands-none : (c : Scene) → Keeps c → (i : ℕ) → slice_get c.scripts i ≡ None → commands_in (suc i) (tasks c) ≡ []
commands-none c keeps i h =
    let k = suc i in
    let n = count_by (is_step k) c.schedule in
    let at : script_at k c.scripts ≡ no_script = ap (λ m. get_or c.scripts m no_script) (less i) ∙ past-end c.scripts i h in
    commands-reverse k (order c)
    ∙ ap reverse (commands-order c k
    ∙ (ap₂ (λ xs ys. xs ++ ys)
    (ap₂ (λ xs ys. xs ++ ys)
    (ap₂ (λ xs ys. xs ++ ys) (other-acts k 0 (setup_commands c) (ne_eqb 0 k (λ e. omega arith))) (no-entering k _ c.scripts))
    (scheduled c.layout c.sites c.scripts k [] c.schedule keeps.schedule ∙ ap (λ (s : Script). take n s.commands) at))
    (none-left c.schedule 1 i k c.scripts h (omega arith))
    ∙ append-nil (take n nothing) ∙ take-none n))
  where
    less : (i : ℕ) → suc i - 1 ≡ i
    less i = omega arith
