-- The callers that come by tasks: in the order of a replay seat 0 in the first actor, and seat k in the actor of script k.
use Rattle.std.proofs.Common.{ℕ, zero, suc, ◌≡◌, ◌+◌, List, [], ◌∷◌, ◌++◌, length, map, drop, reverse, count_by, option_to_list, Option, Some, None, slice_get, slice_set, refl, sym, ◌∙◌, ap, ap₂, append_assoc, append-nil, inl, inr}
use Rattle.std.specs.Option.{option_map}
use Rattle.std.proofs.lemmas.List.{map-append, reverse-append, reverse-reverse}
use Rattle.std.proofs.lemmas.List.Elements.{All-head, All-tail}
use Rattle.std.proofs.lemmas.Option.{slice_get-map}
use Rattle.chorus_ui.specs.declared.ui.Ui.{Ui}
use Rattle.chorus_ui.specs.declared.layout.Layout.{Layout}
use Rattle.chorus_entry.specs.declared.command.Command.{Command}
use Rattle.chorus_entry.specs.declared.packet.Packet.{Packet}
use Rattle.chorus_calls.specs.Callers.{Seated, new_caller, raised}
use Rattle.law_machine.specs.PlaceMachine.{begun_by, act, work}
use Rattle.law_machine.proofs.Machine.Stays.{act-stays, work-stays}
use Rattle.law_network.specs.Packets.{first_on}
use Rattle.law_network.specs.Network.{NetState, Event, Enter, Act, Deliver, See, shown, schedule, commanded, works_off, delivered, turn_for, place, round, rounds}
use Rattle.law_network.specs.Calls.{first_actor, starting}
use Rattle.law_network.specs.Stands.{actor_of}
use Rattle.law_network.specs.Tasks.{Task, Do, Drain, CarryOut, CarryFront, AreDeliveries}
use Rattle.law_network.proofs.Draining.Drains.{round-deliveries}
use Rattle.chorus_scene.specs.declared.scenario.Step as step
use Rattle.chorus_scene.specs.declared.scenario.Step.TheVariants as steps
use Rattle.chorus_scene.specs.Scene.{Scene, Script}
use Rattle.chorus_scene.specs.Grammar.{script_at, is_step}
use Rattle.chorus_report.specs.Setup.{setup_commands}
use Rattle.chorus_replay.specs.Order.{in_setup, entering, step_tasks, in_schedule, then_drain, left_from, opening_order, order, tasks}

-- The actors of the callers after events.

-- the actors that come, the latest first
abbrev pub actors_in : List Event → List Ui
actors_in [] = []
actors_in (Enter actor last ∷ es) = actor ∷ actors_in es
actors_in (Act k c ∷ es) = actors_in es
actors_in (Deliver k a b ∷ es) = actors_in es
actors_in (See k clock ∷ es) = actors_in es

abbrev pub actor_in : Seated → Ui
actor_in caller = caller.actor

set-actor : (callers : List Seated) (k : ℕ) (caller new : Seated) → slice_get callers k ≡ Some caller → new.actor ≡ caller.actor → map actor_in (slice_set callers k new) ≡ map actor_in callers
set-actor [] k caller new found same = refl
set-actor (first ∷ callers) zero caller new found same =
    let e : first ≡ caller = cc in
    ap (λ a. a ∷ map actor_in callers) (same ∙ sym (ap actor_in e))
set-actor (first ∷ callers) (suc k) caller new found same = ap (λ z. first.actor ∷ z) (set-actor callers k caller new found same)

given : (k : ℕ) (c : Command) (n : NetState) (o : Option Seated) → slice_get n.callers k ≡ o → map actor_in (commanded k c o n).callers ≡ map actor_in n.callers
given k c n None found = refl
given k c n (Some caller) found = set-actor n.callers k caller (act c (turn_for c caller n)).caller found (act-stays c (turn_for c caller n)).actor

worked : (k a b : ℕ) (caller : Seated) (o : Option Packet) (n : NetState) → slice_get n.callers k ≡ Some caller → map actor_in (works_off k a b caller o n).callers ≡ map actor_in n.callers
worked k a b caller None n found = refl
worked k a b caller (Some q) n found =
    let t = begun_by (place b n) caller q in set-actor n.callers k caller (work q t).caller found (work-stays q t).actor

brought : (k a b : ℕ) (n : NetState) (o : Option Seated) → slice_get n.callers k ≡ o → map actor_in (delivered k a b o n).callers ≡ map actor_in n.callers
brought k a b n None found = refl
brought k a b n (Some caller) found = worked k a b caller (first_on a b n.packets) n found

saw : (k clock : ℕ) (n : NetState) (o : Option Seated) → slice_get n.callers k ≡ o → map actor_in (shown k clock o n).callers ≡ map actor_in n.callers
saw k clock n None found = refl
saw k clock n (Some caller) found = set-actor n.callers k caller (raised clock caller) found refl

pub callers-after : (l : Layout) (es : List Event) → map actor_in (schedule l es).callers ≡ reverse (actors_in es)
callers-after l [] = refl
callers-after l (Enter actor last ∷ es) =
    let n = schedule l es in
    map-append actor_in n.callers (new_caller (length n.callers) actor last ∷ [])
    ∙ ap (λ z. z ++ actor ∷ []) (callers-after l es)
    ∙ sym (reverse-append (actor ∷ []) (actors_in es))
callers-after l (Act k c ∷ es) = given k c (schedule l es) (slice_get (schedule l es).callers k) refl ∙ callers-after l es
callers-after l (Deliver k a b ∷ es) = brought k a b (schedule l es) (slice_get (schedule l es).callers k) refl ∙ callers-after l es
callers-after l (See k clock ∷ es) = saw k clock (schedule l es) (slice_get (schedule l es).callers k) refl ∙ callers-after l es

pub actor-after : (l : Layout) (es : List Event) (k : ℕ) → actor_of (schedule l es) k ≡ slice_get (reverse (actors_in es)) k
actor-after l es k = sym (slice_get-map actor_in (schedule l es).callers k) ∙ ap (λ z. slice_get z k) (callers-after l es)

-- The actors of tasks, and of the events that carry them out.

abbrev pub actors_by : List Task → List Ui
actors_by [] = []
actors_by (Do (Enter actor last) ∷ ts) = actor ∷ actors_by ts
actors_by (Do (Act k c) ∷ ts) = actors_by ts
actors_by (Do (Deliver k a b) ∷ ts) = actors_by ts
actors_by (Do (See k clock) ∷ ts) = actors_by ts
actors_by (Drain k ∷ ts) = actors_by ts

none-come : (k : ℕ) (done older : List Event) → AreDeliveries k done → actors_in (done ++ older) ≡ actors_in older
none-come k [] older h = refl
none-come k (e ∷ done) older h =
    let IsDelivery : Event → Type 0 = λ (f : Event). (a : ℕ) × ((b : ℕ) × (f ≡ Deliver k a b)) in
    let head = All-head IsDelivery e done h in
    ap (λ f. actors_in (f ∷ done ++ older)) head.1.1 ∙ none-come k done older (All-tail IsDelivery e done h)

rounds-none : (l : Layout) (k m : ℕ) (older : List Event) → actors_in (rounds l k m ++ older) ≡ actors_in older
rounds-none l k zero older = refl
rounds-none l k (suc m) older =
    ap actors_in (append_assoc (round l k) (rounds l k m) older)
    ∙ none-come k (round l k) (rounds l k m ++ older) (round-deliveries l k) ∙ rounds-none l k m older

one-more : (e : Event) (es : List Event) (ts : List Task) → actors_in es ≡ actors_by ts → actors_in (e ∷ es) ≡ actors_by (Do e ∷ ts)
one-more (Enter actor last) es ts h = ap (λ z. actor ∷ z) h
one-more (Act k c) es ts h = h
one-more (Deliver k a b) es ts h = h
one-more (See k clock) es ts h = h

pub carried-actors : (l : Layout) (ts : List Task) (es : List Event) → CarryOut l ts es → actors_in es ≡ actors_by ts
carried-actors l [] es c = ap actors_in c
carried-actors l (Do e ∷ ts) es c = ap actors_in c.1.0 ∙ one-more e c.0 ts (carried-actors l ts c.0 c.1.1)
carried-actors l (Drain k ∷ ts) es c =
    ap actors_in (c.1.0).rounds ∙ rounds-none l k (c.1.0).count c.0 ∙ carried-actors l ts c.0 c.1.1

-- those of a front are the first
more : (e : Event) (ts : List Task) (xs : List Ui) → (later : List Ui) × (actors_by ts ≡ later ++ xs) → (later : List Ui) × (actors_by (Do e ∷ ts) ≡ later ++ xs)
more (Enter actor last) ts xs h = (actor ∷ h.0, ap (λ z. actor ∷ z) h.1)
more (Act k c) ts xs h = h
more (Deliver k a b) ts xs h = h
more (See k clock) ts xs h = h

pub front-actors : (l : Layout) (ts : List Task) (es : List Event) → CarryFront l ts es → (later : List Ui) × (actors_by ts ≡ later ++ actors_in es)
front-actors l [] es c = ([], sym (ap actors_in c))
front-actors l (Do e ∷ ts) es (inl all) = ([], sym (carried-actors l (Do e ∷ ts) es all))
front-actors l (Do e ∷ ts) es (inr less) = more e ts (actors_in es) (front-actors l ts es less)
front-actors l (Drain k ∷ ts) es (inl part) =
    let done = part.0 in
    let older = part.1.0 in
    ([], sym (ap actors_in part.1.1.0 ∙ none-come k done older part.1.1.1 ∙ carried-actors l ts older part.1.1.2))
front-actors l (Drain k ∷ ts) es (inr less) = front-actors l ts es less

-- The order of a replay.

pub actors-append : (ts us : List Task) → actors_by (ts ++ us) ≡ actors_by ts ++ actors_by us
actors-append [] us = refl
actors-append (Do (Enter actor last) ∷ ts) us = ap (λ z. actor ∷ z) (actors-append ts us)
actors-append (Do (Act k c) ∷ ts) us = actors-append ts us
actors-append (Do (Deliver k a b) ∷ ts) us = actors-append ts us
actors-append (Do (See k clock) ∷ ts) us = actors-append ts us
actors-append (Drain k ∷ ts) us = actors-append ts us

last-actor : (t : Task) (ts : List Task) → reverse (actors_by ts) ++ actors_by (t ∷ []) ≡ reverse (actors_by (t ∷ ts))
last-actor (Do (Enter actor last)) ts = sym (reverse-append (actor ∷ []) (actors_by ts))
last-actor (Do (Act k c)) ts = append-nil (reverse (actors_by ts))
last-actor (Do (Deliver k a b)) ts = append-nil (reverse (actors_by ts))
last-actor (Do (See k clock)) ts = append-nil (reverse (actors_by ts))
last-actor (Drain k) ts = append-nil (reverse (actors_by ts))

pub actors-reverse : (ts : List Task) → actors_by (reverse ts) ≡ reverse (actors_by ts)
actors-reverse [] = refl
actors-reverse (t ∷ ts) =
    ap actors_by (reverse-append (t ∷ []) ts)
    ∙ actors-append (reverse ts) (t ∷ [])
    ∙ ap (λ z. z ++ actors_by (t ∷ [])) (actors-reverse ts)
    ∙ last-actor t ts

pub acts-none : (k : ℕ) (cs : List Command) → actors_by (map Do (map (Act k) cs)) ≡ []
acts-none k [] = refl
acts-none k (c ∷ cs) = acts-none k cs

pub entering-all : (last : ℕ) (scripts : List Script) → actors_by (map Do (map (λ (script : Script). Enter script.actor last) scripts)) ≡ map (λ (script : Script). script.actor) scripts
entering-all last [] = refl
entering-all last (script ∷ scripts) = ap (λ z. script.actor ∷ z) (entering-all last scripts)

option-none : (k : ℕ) (o : Option Command) → actors_by (option_to_list (option_map (λ (command : Command). Do (Act k command)) o)) ≡ []
option-none k None = refl
option-none k (Some c) = refl

pub step-none : (scripts : List Script) (before : List step.Step) (s : step.Step) → actors_by (step_tasks scripts before s) ≡ []
step-none scripts before (steps.Step k) = option-none k (slice_get (script_at k scripts).commands (count_by (is_step k) before))
step-none scripts before (steps.Deliver from to) = refl
step-none scripts before steps.Drain = refl

pub schedule-none : (scripts : List Script) (before rest : List step.Step) → actors_by (in_schedule scripts before rest) ≡ []
schedule-none scripts before [] = refl
schedule-none scripts before (s ∷ rest) =
    actors-append (step_tasks scripts before s) (in_schedule scripts (before ++ s ∷ []) rest)
    ∙ ap₂ (λ xs ys. xs ++ ys) (step-none scripts before s) (schedule-none scripts (before ++ s ∷ []) rest)

pub drains-none : (k : ℕ) (cs : List Command) → actors_by (then_drain k cs) ≡ []
drains-none k [] = refl
drains-none k (c ∷ cs) = drains-none k cs

pub left-none : (schedule : List step.Step) (k : ℕ) (scripts : List Script) → actors_by (left_from schedule k scripts) ≡ []
left-none schedule k [] = refl
left-none schedule k (script ∷ scripts) =
    let cs = drop (count_by (is_step k) schedule) script.commands in
    actors-append (then_drain k cs) (left_from schedule (k + 1) scripts)
    ∙ ap₂ (λ xs ys. xs ++ ys) (drains-none k cs) (left-none schedule (k + 1) scripts)

pub actors-opening : (c : Scene) → actors_by (opening_order c) ≡ first_actor ∷ map (λ (script : Script). script.actor) c.scripts
actors-opening c =
    ap (λ z. first_actor ∷ z)
    (ap actors_by (map-append Do (in_setup c) (entering c))
    ∙ actors-append (map Do (in_setup c)) (map Do (entering c))
    ∙ ap₂ (λ xs ys. xs ++ ys) (acts-none 0 (setup_commands c)) (entering-all _ c.scripts))

pub actors-order : (c : Scene) → actors_by (order c) ≡ first_actor ∷ map (λ (script : Script). script.actor) c.scripts
actors-order c =
    let actors = first_actor ∷ map (λ (script : Script). script.actor) c.scripts in
    let first = map Do (starting ∷ in_setup c ++ entering c) in
    let scheduled = in_schedule c.scripts [] c.schedule in
    let rest = left_from c.schedule 1 c.scripts in
    actors-append (first ++ scheduled ++ rest) (Drain 0 ∷ [])
    ∙ append-nil (actors_by (first ++ scheduled ++ rest))
    ∙ actors-append (first ++ scheduled) rest
    ∙ ap₂ (λ xs ys. xs ++ ys)
    (actors-append first scheduled
    ∙ ap₂ (λ xs ys. xs ++ ys)
    (ap (λ z. first_actor ∷ z)
    (ap actors_by (map-append Do (in_setup c) (entering c))
    ∙ actors-append (map Do (in_setup c)) (map Do (entering c))
    ∙ ap₂ (λ xs ys. xs ++ ys) (acts-none 0 (setup_commands c)) (entering-all _ c.scripts)))
    (schedule-none c.scripts [] c.schedule)
    ∙ append-nil actors)
    (left-none c.schedule 1 c.scripts)
    ∙ append-nil actors

-- who comes by the tasks, the first one first
pub comers : (c : Scene) → reverse (actors_by (tasks c)) ≡ first_actor ∷ map (λ (script : Script). script.actor) c.scripts
comers c = ap reverse (actors-reverse (order c)) ∙ reverse-reverse (actors_by (order c)) ∙ actors-order c

-- the callers that come by tasks are these
abbrev pub AreComers : List Task → (ℕ → Option Ui) → Type 0
AreComers ts callers = (k : ℕ) → slice_get (reverse (actors_by ts)) k ≡ callers k

pub get-front : {X : Type 0} (xs ys : List X) (k : ℕ) (a : X) → slice_get xs k ≡ Some a → slice_get (xs ++ ys) k ≡ Some a
get-front [] ys k a h = absurd (cc)
get-front (x ∷ xs) ys zero a h = h
get-front (x ∷ xs) ys (suc k) a h = get-front xs ys k a h

module _ (l : Layout) (ts : List Task) (callers : ℕ → Option Ui) (come : AreComers ts callers) (es : List Event) where
  -- when the tasks are carried out, the callers are all of these
  pub callers-given : CarryOut l ts es → (k : ℕ) → actor_of (schedule l es) k ≡ callers k
  callers-given carried k =
      actor-after l es k ∙ ap (λ z. slice_get z k) (ap reverse (carried-actors l ts es carried)) ∙ come k

  -- when a front of them is, each caller that has come is one of these
  pub callers-so-far : CarryFront l ts es → (k : ℕ) (a : Ui) → actor_of (schedule l es) k ≡ Some a → callers k ≡ Some a
  callers-so-far carried k a h =
      let front = front-actors l ts es carried in
      let all = sym (reverse-append front.0 (actors_in es)) ∙ ap reverse (sym front.1) in
      sym (come k) ∙ ap (λ z. slice_get z k) (sym all) ∙ get-front (reverse (actors_in es)) (reverse front.0) k a (sym (actor-after l es k) ∙ h)
