-- The loops of a replay: what is left with one line, script, step or command more.
use Rattle.std.proofs.Common.{ℕ, zero, suc, ◌≡◌, ◌<◌, ◌≤◌, ◌+◌, ◌↔◌, nat_le, Bool, true, false, List, [], ◌∷◌, ◌++◌, length, map, take, drop, reverse, get_or, Option, Some, None, is_some, slice_get, Result, Ok, Err, refl, sym, ◌∙◌, ap, ap₂, subst, append_assoc, length-append, arith}
use Rattle.std.specs.Option.{option_map}
use Rattle.std.proofs.lemmas.Bool.{leb-true, leb-false, false≢true}
use Rattle.std.proofs.lemmas.List.{map-append, reverse-append, length-map, length-reverse}
use Rattle.std.proofs.lemmas.Option.{slice_get-get_or}
use Rattle.chorus_ui.specs.declared.ui.Ui.{Ui}
use Rattle.chorus_ui.specs.declared.layout.Layout.{Layout}
use Rattle.chorus_ui.specs.declared.limits.TheConstants.{CLOCK_LIMIT, SEATS_LIMIT}
use Rattle.chorus_entry.specs.declared.command.Command.{Command}
use Rattle.chorus_calls.specs.Callers.{Seated, new_caller}
use Rattle.chorus_place.specs.declared.fault.PlaceFault.{PlaceFault}
use Rattle.law_network.specs.Network.{NetState, Event, Enter, Act, Deliver, See, happened, schedule}
use Rattle.law_network.specs.Calls as calls
use Rattle.law_network.specs.Calls.{first_actor, starting, last_of}
use Rattle.law_network.specs.Tasks.{Task, Do, Drain}
use Rattle.chorus_scene.specs.declared.limits.TheConstants.{SCRIPTS_LIMIT}
use Rattle.chorus_scene.specs.declared.scenario.SetupLine.{SetupLine}
use Rattle.chorus_scene.specs.declared.scenario.Step as step
use Rattle.chorus_scene.specs.Scene.{Scene, Script}
use Rattle.chorus_scene.specs.Limits.{Keeps}
use Rattle.chorus_report.specs.Setup.{setup_command}
use Rattle.chorus_replay.specs.Order.{after_setup, set_up, in_setup, entering, in_schedule, left_from, order}
use Rattle.chorus_net.specs.Worn.{IsUnworn}
use Rattle.chorus_replay.specs.Performing.{AreLeft, IsBefore, to_set_up, to_enter, to_follow}
use Rattle.chorus_replay.proofs.Callers.{actors_in, actor_in, actors_by, callers-after, actor-after, carried-actors, actors-append, actors-reverse, actors-order}

-- what is left from this line of the setup on, and from this script on
abbrev pub setup_from : Scene → ℕ → List Task
setup_from c i = map Do (map (Act 0) (map setup_command (drop i c.setup))) ++ to_enter c

abbrev pub enter_from : Scene → ℕ → List Task
enter_from c i = map Do (map (λ (script : Script). Enter script.actor (last_of (slice_get (set_up c).callers 0))) (drop i c.scripts)) ++ to_follow c

pub drop-next : {X : Type 0} (xs : List X) (i : ℕ) (x : X) → slice_get xs i ≡ Some x → drop i xs ≡ x ∷ drop (i + 1) xs
drop-next [] i x h = absurd (cc)
drop-next (y ∷ ys) zero x h = (let e : y ≡ x = cc in ap (λ z. z ∷ ys) e)
drop-next (y ∷ ys) (suc i) x h = drop-next ys i x h ∙ ap (λ m. x ∷ drop m (y ∷ ys)) (up i)
  where
    up : (i : ℕ) → suc (i + 1) ≡ suc i + 1
    up i = omega arith

pub take-next : {X : Type 0} (xs : List X) (i : ℕ) (x : X) → slice_get xs i ≡ Some x → take (i + 1) xs ≡ take i xs ++ x ∷ []
take-next [] i x h = absurd (cc)
take-next (y ∷ ys) zero x h = (let e : y ≡ x = cc in ap (λ z. z ∷ []) e)
take-next (y ∷ ys) (suc i) x h = ap (λ m. take m (y ∷ ys)) (up i) ∙ ap (λ z. y ∷ z) (take-next ys i x h)
  where
    up : (i : ℕ) → suc i + 1 ≡ suc (i + 1)
    up i = omega arith

-- a scenario's order is the start of the sites and then its setup
pub order-is : (c : Scene) → order c ≡ Do starting ∷ to_set_up c
order-is c =
    let first = map Do (starting ∷ in_setup c ++ entering c) in
    let scheduled = in_schedule c.scripts [] c.schedule in
    let rest = left_from c.schedule 1 c.scripts in
    append_assoc (first ++ scheduled) rest (Drain 0 ∷ [])
    ∙ append_assoc first scheduled (rest ++ Drain 0 ∷ [])
    ∙ ap (λ z. Do starting ∷ (z ++ to_follow c)) (map-append Do (in_setup c) (entering c))
    ∙ ap (λ z. Do starting ∷ z) (append_assoc (map Do (in_setup c)) (map Do (entering c)) (to_follow c))

-- Answers of calls.

-- a refusal that is passed on is the refusal of the call
pub exit : {T U : Type 0} (r : Result T PlaceFault) (s : Result U PlaceFault) (x y e : PlaceFault) → r ≡ Err y → y ≡ x → s ≡ Err x → r ≡ Err e → s ≡ Err e
exit r s x y e one same was is =
    let other : y ≡ e = (let both : Err y ≡ Err e = sym one ∙ is in cc) in was ∙ ap (λ (z : PlaceFault). Err z) (sym same ∙ other)

ok-is-no-error : {T : Type 0} (r : Result T PlaceFault) (x : T) (e : PlaceFault) → r ≡ Ok x → r ≡ Err e → ⊥
ok-is-no-error r x e h k = (let both : Ok x ≡ Err e = sym h ∙ k in cc)

-- a command that was performed compared no clock from 2^62 on, and so did a delivery
pub act-unworn : {T : Type 0} (r : Result T PlaceFault) (x : T) (m : ℕ) → r ≡ Ok x → ((clock : ℕ) → (r ≡ Err (PlaceFault.Worn clock)) ↔ ((CLOCK_LIMIT ≤ m) × (clock ≡ m))) → m < CLOCK_LIMIT
act-unworn r x m is h = go (nat_le CLOCK_LIMIT m) refl
  where
    go : (b : Bool) → nat_le CLOCK_LIMIT m ≡ b → m < CLOCK_LIMIT
    go true e = absurd (ok-is-no-error r x (PlaceFault.Worn m) is ((h m).1 (leb-true CLOCK_LIMIT m e, refl)))
    go false e = (let low = leb-false CLOCK_LIMIT m e in omega (arith, low))

pub deliver-unworn : {T : Type 0} (r : Result T PlaceFault) (x : T) (o : Option ℕ) → r ≡ Ok x → ((clock : ℕ) → (r ≡ Err (PlaceFault.Worn clock)) ↔ ((CLOCK_LIMIT ≤ clock) × (o ≡ Some clock))) → IsUnworn o
deliver-unworn r x None is h = tt
deliver-unworn r x (Some m) is h = go (nat_le CLOCK_LIMIT m) refl
  where
    go : (b : Bool) → nat_le CLOCK_LIMIT m ≡ b → m < CLOCK_LIMIT
    go true e = absurd (ok-is-no-error r x (PlaceFault.Worn m) is ((h m).1 (leb-true CLOCK_LIMIT m e, refl)))
    go false e = (let low = leb-false CLOCK_LIMIT m e in omega (arith, low))

-- The setup.

pub setup-next : (c : Scene) (items : List SetupLine) (i : ℕ) (x : SetupLine) (command : Command) (n : NetState) → items ≡ c.setup → slice_get items i ≡ Some x → command ≡ setup_command x
    → IsBefore c (setup_from c i) n → IsBefore c (Do (Act 0 command) ∷ setup_from c (i + 1)) n
setup-next c items i x command n same read is b =
    subst (λ ts. IsBefore c ts n)
    (ap (λ xs. map Do (map (Act 0) (map setup_command xs)) ++ to_enter c) (drop-next c.setup i x (ap (λ xs. slice_get xs i) (sym same) ∙ read))
    ∙ ap (λ z. Do (Act 0 z) ∷ setup_from c (i + 1)) (sym is))
    b

-- seat 0 performs one command more
pub acts-now : (l : Layout) (before : List Command) (command : Command) (n new : NetState) → n ≡ schedule l (reverse (starting ∷ map (Act 0) before)) → new ≡ happened (Act 0 command) n
    → new ≡ schedule l (reverse (starting ∷ map (Act 0) (before ++ command ∷ [])))
acts-now l before command n new now happens =
    happens ∙ ap (happened (Act 0 command)) now
    ∙ ap (schedule l) (sym (ap (λ es. reverse (starting ∷ es)) (map-append (Act 0) before (command ∷ [])) ∙ reverse-append (starting ∷ map (Act 0) before) (Act 0 command ∷ [])))

pub setup-now : (c : Scene) (items : List SetupLine) (i : ℕ) (x : SetupLine) (command : Command) (n new : NetState) → items ≡ c.setup → slice_get items i ≡ Some x → command ≡ setup_command x
    → n ≡ schedule c.layout (reverse (starting ∷ map (Act 0) (map setup_command (take i c.setup)))) → new ≡ happened (Act 0 command) n
    → new ≡ schedule c.layout (reverse (starting ∷ map (Act 0) (map setup_command (take (i + 1) c.setup))))
setup-now c items i x command n new same read is now happens =
    let before = map setup_command (take i c.setup) in
    let more : map setup_command (take (i + 1) c.setup) ≡ before ++ command ∷ [] =
    ap (map setup_command) (take-next c.setup i x (ap (λ xs. slice_get xs i) (sym same) ∙ read))
    ∙ map-append setup_command (take i c.setup) (x ∷ [])
    ∙ ap (λ z. before ++ z ∷ []) (sym is) in
    acts-now c.layout before command n new now happens ∙ ap (λ cs. schedule c.layout (reverse (starting ∷ map (Act 0) cs))) (sym more)

-- The callers.

some-of : (o : Option Seated) (a : Ui) → option_map actor_in o ≡ Some a → is_some o ≡ true
some-of None a h = absurd (cc)
some-of (Some x) a h = refl

first-last : (es : List Event) → actors_in (es ++ starting ∷ []) ≡ actors_in es ++ first_actor ∷ []
first-last [] = refl
first-last (Enter actor last ∷ es) = ap (λ z. actor ∷ z) (first-last es)
first-last (Act k c ∷ es) = first-last es
first-last (Deliver k a b ∷ es) = first-last es
first-last (See k clock ∷ es) = first-last es

-- seat 0 has come behind a setup
pub after-some : (l : Layout) (setup : List Command) → is_some (slice_get (after_setup l setup).callers 0) ≡ true
after-some l setup =
    let es = reverse (map (Act 0) setup) in
    let front : reverse (starting ∷ map (Act 0) setup) ≡ es ++ starting ∷ [] = reverse-append (starting ∷ []) (map (Act 0) setup) in
    some-of (slice_get (after_setup l setup).callers 0) first_actor
    (actor-after l (reverse (starting ∷ map (Act 0) setup)) 0
    ∙ ap (λ z. slice_get (reverse z) 0) (ap actors_in front ∙ first-last es)
    ∙ ap (λ z. slice_get z 0) (reverse-append (actors_in es) (first_actor ∷ [])))

get-first : (xs ys : List Seated) → is_some (slice_get xs 0) ≡ true → slice_get (xs ++ ys) 0 ≡ slice_get xs 0
get-first [] ys h = absurd (false≢true h)
get-first (x ∷ xs) ys h = refl

pub enter-next : (c : Scene) (items : List Script) (i : ℕ) (x : Script) (actor : Ui) (n : NetState) → items ≡ c.scripts → slice_get items i ≡ Some x → actor ≡ x.actor
    → slice_get n.callers 0 ≡ slice_get (set_up c).callers 0 → IsBefore c (enter_from c i) n → IsBefore c (Do (calls.entering actor n) ∷ enter_from c (i + 1)) n
enter-next c items i x actor n same read is first b =
    subst (λ ts. IsBefore c ts n)
    (ap (λ xs. map Do (map (λ (script : Script). Enter script.actor (last_of (slice_get (set_up c).callers 0))) xs) ++ to_follow c) (drop-next c.scripts i x (ap (λ xs. slice_get xs i) (sym same) ∙ read))
    ∙ ap₂ (λ a o. Do (Enter a (last_of o)) ∷ enter_from c (i + 1)) (sym is) (sym first))
    b

-- and stays as it is where another caller comes
pub enter-first : (o : Option Seated) (actor : Ui) (n new : NetState) → is_some o ≡ true → slice_get n.callers 0 ≡ o → new ≡ happened (calls.entering actor n) n → slice_get new.callers 0 ≡ o
enter-first o actor n new some first is =
    ap (λ (m : NetState). slice_get m.callers 0) is
    ∙ get-first n.callers (new_caller (length n.callers) actor (last_of (slice_get n.callers 0)) ∷ []) (ap is_some first ∙ some)
    ∙ first

-- no more callers than come by all tasks
pub seats-few : (l : Layout) (all rest : List Task) (n : NetState) → length (actors_by all) < SEATS_LIMIT → AreLeft l all rest n → length n.callers < SEATS_LIMIT
seats-few l all rest n few b =
    let seats = ap (λ (m : NetState). length m.callers) b.is in
    let mapped = length-map (schedule l b.events).callers actor_in in
    let came = ap length (callers-after l b.events) in
    let turned = length-reverse (actors_in b.events) in
    let by_tasks = ap length (carried-actors l (reverse b.done) b.events b.carried ∙ actors-reverse b.done) in
    let back = length-reverse (actors_by b.done) in
    let split = ap length (ap actors_by b.whole ∙ actors-append b.done rest) in
    let sum = length-append (actors_by b.done) (actors_by rest) in
    bound (length n.callers) (length (schedule l b.events).callers) (length (map actor_in (schedule l b.events).callers)) (length (reverse (actors_in b.events))) (length (actors_in b.events))
    (length (reverse (actors_by b.done))) (length (actors_by b.done)) (length (actors_by all)) (length (actors_by b.done ++ actors_by rest)) (length (actors_by rest))
    seats mapped came turned by_tasks back split sum few
  where
    bound : (a b d e f g h i j k : ℕ) → a ≡ b → d ≡ b → d ≡ e → e ≡ f → f ≡ g → g ≡ h → i ≡ j → j ≡ h + k → i < SEATS_LIMIT → a < SEATS_LIMIT
    bound a b d e f g h i j k h1 h2 h3 h4 h5 h6 h7 h8 h9 = omega arith

-- a scenario has few
pub scripts-few : (c : Scene) → Keeps c → length (actors_by (order c)) < SEATS_LIMIT
scripts-few c keeps =
    let all = ap length (actors-order c) in
    let scripts = length-map c.scripts (λ (script : Script). script.actor) in
    let few = keeps.few_scripts in
    bound (length (actors_by (order c))) (length (map (λ (script : Script). script.actor) c.scripts)) (length c.scripts) all scripts few
  where
    bound : (i m p : ℕ) → i ≡ suc m → m ≡ p → p ≤ SCRIPTS_LIMIT → i < SEATS_LIMIT
    bound i m p h1 h2 h3 = omega arith

-- The schedule.

pub step-at : (c : Scene) (items : List step.Step) (i : ℕ) (d s : step.Step) → items ≡ c.schedule → i < length c.schedule → get_or items i d ≡ s → slice_get c.schedule i ≡ Some s
step-at c items i d s same lt is =
    slice_get-get_or c.schedule i d lt ∙ ap (λ (x : step.Step). Some x) (ap (λ xs. get_or xs i d) (sym same) ∙ is)
