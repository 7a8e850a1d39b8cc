-- Behind the setup, whoever delivers and sees entries, the network is alike to that where the race begins.
-- c is a scenario, comers are those who come, l a layout, fs are events of the setup, the latest first, d is a command, k a seat, i the place of a script.
use Rattle.std.proofs.Common.{ℕ, zero, suc, ◌≡◌, ◌≤◌, ◌+◌, ◌==◌, max, Bool, true, false, cond, List, [], ◌∷◌, ◌++◌, length, map, reverse, option_to_list, Option, Some, None, is_some, slice_get, slice_set, refl, sym, ◌∙◌, ap, subst, arith, append_assoc}
use Rattle.std.specs.List.{All}
use Rattle.std.specs.Option.{option_map}
use Rattle.std.proofs.lemmas.Bool.{ne_eqb}
use Rattle.std.proofs.lemmas.List.{append-nil, length-append, reverse-append}
use Rattle.std.proofs.lemmas.List.Elements.{All-nil, All-cons, All-head, All-tail, All-append}
use Rattle.std.proofs.lemmas.Option.{slice_get-map}
use Rattle.chorus_ui.specs.declared.ui.Ui.{Ui}
use Rattle.chorus_ui.specs.declared.layout.Layout.{Layout}
use Rattle.chorus_entry.specs.declared.act.Act as act_type
use Rattle.chorus_entry.specs.declared.command.Command.{Command}
use Rattle.chorus_calls.specs.Callers.{Seated, after_tick, new_caller, raised}
use Rattle.law_arrows.specs.Arrows.{worked_off}
use Rattle.law_machine.specs.PlaceState.{PlaceState}
use Rattle.law_machine.specs.PlaceMachine.{act, begun}
use Rattle.law_machine.specs.Doing.{does}
use Rattle.law_machine.proofs.Machine.Owns.{IsOwn, Makes, Groups, Joins, is-own}
use Rattle.law_history.specs.Journals.{Comer, coming, new_from}
use Rattle.law_history.specs.Runs.{actor_among}
use Rattle.law_history.proofs.Arriving.{all-come}
use Rattle.law_network.specs.Calls.{first_actor, last_of, starting}
use Rattle.law_network.specs.Network.{NetState, Event, Enter, Act, Deliver, See, after, commanded, delivered, happened, opening, schedule, shown, turn_for, works_off}
use Rattle.law_network.specs.Packets.{first_on, put_all}
use Rattle.law_network.specs.Schedules.{command_in, commands_of}
use Rattle.law_network.proofs.Merge.Parts.{All-reverse}
use Rattle.law_network.proofs.Places.Layouts.{schedule-keeps}
use Rattle.law_network.proofs.Standing.CallerList.{get-other}
use Rattle.law_explore.specs.Alike.{ActAlike, CallerAlike, NetsAlike, PlacesAlike, unclocked}
use Rattle.law_explore.specs.Races.{own_by}
use Rattle.law_moments.specs.Answers.{answer_by, answered_by}
use Rattle.law_explore.proofs.Alike.{keep_acts}
use Rattle.law_explore.proofs.Nets.{command-alike}
use Rattle.law_replay.specs.Shown.{race_of}
use Rattle.chorus_scene.specs.Scene.{Scene, Script}
use Rattle.chorus_scene.specs.declared.scenario.SetupLine.{SetupLine}
use Rattle.chorus_scene.specs.declared.scenario.SetupLine.TheVariants as setups
use Rattle.chorus_report.specs.Headline.{callers_of}
use Rattle.chorus_report.specs.Setup.{setup_command, setup_commands}
use Rattle.chorus_replay.specs.Order.{entering, in_setup, set_up}
use Rattle.chorus_explore.proofs.Racing.{base, map-reverse}
use Rattle.law_outcomes.specs.Anybody.{IsOfRace, IsOfSetup}
use Rattle.law_outcomes.proofs.Anybody.{replaced, sees-alike}
use Rattle.law_outcomes.proofs.Counting.{idle-first}
use Rattle.law_outcomes.proofs.Following.{Follows, unserved}
use Rattle.law_outcomes.proofs.Silent.{silent-first}

-- Commands of events.

pub commands-append : (k : ℕ) (fs gs : List Event) → commands_of k (fs ++ gs) ≡ commands_of k fs ++ commands_of k gs
commands-append k [] gs = refl
commands-append k (Enter actor last ∷ fs) gs = commands-append k fs gs
commands-append k (Deliver j a b ∷ fs) gs = commands-append k fs gs
commands-append k (See j clock ∷ fs) gs = commands-append k fs gs
commands-append k (Act j d ∷ fs) gs = by (j == k) (commands-append k fs gs)
  where
    by : (q : Bool) → commands_of k (fs ++ gs) ≡ commands_of k fs ++ commands_of k gs
        → cond q (d ∷ commands_of k (fs ++ gs)) (commands_of k (fs ++ gs)) ≡ cond q (d ∷ commands_of k fs) (commands_of k fs) ++ commands_of k gs
    by true ih = ap (λ xs. d ∷ xs) ih
    by false ih = ih

abbrev Gives-none : ℕ → Event → Type 0
Gives-none k e = (cs : List Command) → command_in k e cs ≡ cs

pub none-given : (k : ℕ) (es : List Event) → All (λ (e : Event). (cs : List Command) → command_in k e cs ≡ cs) es → commands_of k es ≡ []
none-given k [] h = refl
none-given k (e ∷ es) h = All-head (Gives-none k) e es h (commands_of k es) ∙ none-given k es (All-tail (Gives-none k) e es h)

abbrev Answers-none : ℕ → Event → Type 0
Answers-none k e = (n : NetState) → answer_by k e n ≡ []

none-answered : (l : Layout) (k : ℕ) (es : List Event) → All (λ (e : Event). (n : NetState) → answer_by k e n ≡ []) es → answered_by l k es ≡ []
none-answered l k [] h = refl
none-answered l k (e ∷ es) h = ap (λ xs. xs ++ answered_by l k es) (All-head (Answers-none k) e es h (schedule l es)) ∙ none-answered l k es (All-tail (Answers-none k) e es h)

pub all-of : {P Q : Event → Type 0} → ((e : Event) → P e → Q e) → (es : List Event) → All P es → All Q es
all-of {P} {Q} f [] h = All-nil Q
all-of {P} {Q} f (e ∷ es) h = All-cons Q e es (f e (All-head P e es h)) (all-of f es (All-tail P e es h))

each : {X : Type 0} (P : Event → Type 0) (f : X → Event) (xs : List X) → ((x : X) → P (f x)) → All P (map f xs)
each P f [] h = All-nil P
each P f (x ∷ xs) h = All-cons P (f x) (map f xs) (h x) (each P f xs h)

setup-gives : (i : ℕ) (e : Event) → IsOfSetup e → Gives-none (suc i) e
setup-gives i (Enter actor last) h = absurd h
setup-gives i (Deliver k a b) h = λ cs. refl
setup-gives i (See k clock) h = λ cs. refl
setup-gives i (Act k d) h = λ cs. ap (λ (b : Bool). cond b (d ∷ cs) cs) (ne_eqb k (suc i) (λ same. omega (arith, h, same)))

setup-answers : (i : ℕ) (e : Event) → IsOfSetup e → Answers-none (suc i) e
setup-answers i (Enter actor last) h = absurd h
setup-answers i (Deliver k a b) h = λ n. refl
setup-answers i (See k clock) h = λ n. refl
setup-answers i (Act k d) h = λ n. ap (λ (b : Bool). cond b (option_to_list (own_by d n (slice_get n.callers k))) []) (ne_eqb k (suc i) (λ same. omega (arith, h, same)))

pub race-gives : (e : Event) → IsOfRace e → (cs : List Command) → command_in 0 e cs ≡ cs
race-gives (Enter actor last) h = absurd h
race-gives (Deliver k a b) h = λ cs. refl
race-gives (See k clock) h = λ cs. refl
race-gives (Act k d) h = λ cs. ap (λ (b : Bool). cond b (d ∷ cs) cs) (ne_eqb k 0 (λ same. omega (arith, h, same)))

-- The commands of a setup put no packet.

abbrev pub PutsNothing : Command → Type 0
PutsNothing d = (s : PlaceState) (w : Seated) → (act d (begun s w)).puts ≡ []

line-none : (line : SetupLine) → PutsNothing (setup_command line)
line-none (setups.Port actor capacity) s w = by (is-own (Command.Make actor capacity) (begun s w))
  where
    by : {a : act_type.Act} → IsOwn (begun s w) (Command.Make actor capacity) a → (does a (begun s w)).puts ≡ []
    by (Makes _ _ e f) = refl
    by _ = refl
line-none (setups.Group site) s w = by (is-own (Command.GroupMake site) (begun s w))
  where
    by : {a : act_type.Act} → IsOwn (begun s w) (Command.GroupMake site) a → (does a (begun s w)).puts ≡ []
    by (Groups _ e f) = refl
    by _ = refl
line-none (setups.Member g q) s w = by (is-own (Command.Join g q) (begun s w))
  where
    by : {a : act_type.Act} → IsOwn (begun s w) (Command.Join g q) a → (does a (begun s w)).puts ≡ []
    by (Joins _ _ e f r) = refl
    by _ = refl

pub none-put : (lines : List SetupLine) → All PutsNothing (map setup_command lines)
none-put [] = All-nil PutsNothing
none-put (line ∷ lines) = All-cons PutsNothing (setup_command line) (map setup_command lines) (line-none line) (none-put lines)

-- Networks with one caller more in front, so that seat 0 is asked about too.

abbrev lifted : NetState → NetState
lifted n = record n { callers = new_caller 0 first_actor 0 ∷ n.callers }

lift-act : (d : Command) (n : NetState) → happened (Act 1 d) (lifted n) ≡ lifted (happened (Act 0 d) n)
lift-act d n = by (slice_get n.callers 0)
  where
    by : (o : Option Seated) → commanded 1 d o (lifted n) ≡ lifted (commanded 0 d o n)
    by None = refl
    by (Some w) = refl

lift-see : (k clock : ℕ) (n : NetState) → happened (See (suc k) clock) (lifted n) ≡ lifted (happened (See k clock) n)
lift-see k clock n = by (slice_get n.callers k)
  where
    by : (o : Option Seated) → shown (suc k) clock o (lifted n) ≡ lifted (shown k clock o n)
    by None = refl
    by (Some w) = refl

-- Events of callers who come.

abbrev IsEntering : Event → Type 0
IsEntering (Enter actor last) = Unit {0}
IsEntering (Act k d) = ⊥
IsEntering (Deliver k a b) = ⊥
IsEntering (See k clock) = ⊥

record Entered (l : Layout) (es : List Event) : Type 0 where
  pub places : (schedule l es).places ≡ (opening l).places
  pub packets : (schedule l es).packets ≡ []
  pub idle : worked_off l es ≡ []

entered : (l : Layout) (es : List Event) → All IsEntering es → Entered l es
entered l [] h = record { places = refl; packets = refl; idle = refl }
entered l (Enter actor last ∷ es) h =
    let before = entered l es (All-tail IsEntering (Enter actor last) es h) in record { places = before.places; packets = before.packets; idle = before.idle }
entered l (Act k d ∷ es) h = absurd (All-head IsEntering (Act k d) es h)
entered l (Deliver k a b ∷ es) h = absurd (All-head IsEntering (Deliver k a b) es h)
entered l (See k clock ∷ es) h = absurd (All-head IsEntering (See k clock) es h)

places-same : (ss : List PlaceState) → PlacesAlike ActAlike ss ss
places-same [] = tt
places-same (s ∷ ss) = (record { journal = s.journal; is = refl; journals = refl }, places-same ss)

-- The setup.

module _ (l : Layout) (comers : List Comer) where
  abbrev pub come : List Event
  come = reverse (map coming comers)

  abbrev at : List Event → NetState
  at fs = schedule l (fs ++ reverse (map coming comers))

  -- its commands alone
  abbrev set : List Event → NetState
  set fs = schedule l (map (Act 0) (commands_of 0 fs) ++ starting ∷ [])

  pub record Begun (fs : List Event) : Type 0 where
    pub nets : NetsAlike ActAlike 1 (lifted (at fs)) (lifted (set fs))
    pub packets : (at fs).packets ≡ []
    pub callers : (k : ℕ) (actor : Ui) → 1 ≤ k → actor_among comers k ≡ Some actor → CallerAlike (slice_get (at fs).callers k) (Some (new_caller k actor 0))
    pub idle : worked_off l (fs ++ reverse (map coming comers)) ≡ []

  came-at : (k : ℕ) (actor : Ui) → actor_among comers k ≡ Some actor → CallerAlike (slice_get (at []).callers k) (Some (new_caller k actor 0))
  came-at k actor is =
      subst (λ o. CallerAlike o (Some (new_caller k actor 0)))
      (sym (ap (λ es. slice_get (schedule l es).callers k) (sym (append-nil (reverse (map coming comers)))) ∙ (all-come l comers).callers k))
      (by (slice_get comers k) is)
    where
      by : (o : Option Comer) → option_map (λ (c : Comer). c.actor) o ≡ Some actor → CallerAlike (option_map (λ (c : Comer). new_from k o) o) (Some (new_caller k actor 0))
      by None e = absurd (cc)
      by (Some c) e = record { last = 0; is = (let same : c.actor ≡ actor = cc in ap (λ (a : Ui). new_caller k a 0) (sym same)) }

  none : actor_among comers 0 ≡ Some first_actor → Begun []
  none first =
      let es = reverse (map coming comers) in
      let e = entered l es (All-reverse IsEntering (map coming comers) (each IsEntering coming comers (λ c. tt))) in
      record {
        nets = record {
          layout = sym (schedule-keeps l es).layout;
          places = subst (λ ss. PlacesAlike ActAlike ss (opening l).places) (sym e.places) (places-same (opening l).places);
          packets = ap (map unclocked) e.packets;
          callers = λ k low high.
              (let one : 1 ≡ k = omega (arith, low, high) in
              subst (λ (j : ℕ). CallerAlike (slice_get (lifted (at [])).callers j) (slice_get (lifted (set [])).callers j)) one (came-at 0 first_actor first));
        };
        packets = e.packets;
        callers = λ k actor low is. came-at k actor is;
        idle = e.idle;
      }

  seen : (k clock : ℕ) (fs : List Event) → Begun fs → Begun (See k clock ∷ fs)
  seen k clock fs w = record {
    nets = subst (λ (x : NetState). NetsAlike ActAlike 1 x (lifted (set fs))) (lift-see k clock (at fs)) (sees-alike 1 (lifted (at fs)) (lifted (set fs)) w.nets (suc k) clock);
    packets = same (slice_get (at fs).callers k) ∙ w.packets;
    callers = λ j actor low is. still j actor (w.callers j actor low is) (slice_get (at fs).callers k) refl;
    idle = w.idle;
  }
    where
      same : (o : Option Seated) → (shown k clock o (at fs)).packets ≡ (at fs).packets
      same None = refl
      same (Some v) = refl

      still : (j : ℕ) (actor : Ui) → CallerAlike (slice_get (at fs).callers j) (Some (new_caller j actor 0)) → (o : Option Seated) → slice_get (at fs).callers k ≡ o
          → CallerAlike (slice_get (shown k clock o (at fs)).callers j) (Some (new_caller j actor 0))
      still j actor h None e = h
      still j actor h (Some v) e = replaced (at fs).callers k j v (raised clock v) (Some (new_caller j actor 0)) e (record { last = max v.last clock; is = refl }) h

  -- no packet is there to be delivered
  delivered-none : (k a b : ℕ) (n : NetState) → n.packets ≡ [] → happened (Deliver k a b) n ≡ n
  delivered-none k a b n e = by (slice_get n.callers k)
    where
      by : (o : Option Seated) → delivered k a b o n ≡ n
      by None = refl
      by (Some w) = ap (λ us. works_off k a b w (first_on a b us) n) e

  idled : (k a b : ℕ) (fs : List Event) → Begun fs → Begun (Deliver k a b ∷ fs)
  idled k a b fs w =
      let is : happened (Deliver k a b) (at fs) ≡ at fs = delivered-none k a b (at fs) w.packets in
      record {
        nets = subst (λ (x : NetState). NetsAlike ActAlike 1 (lifted x) (lifted (set fs))) (sym is) w.nets;
        packets = ap (λ (x : NetState). x.packets) is ∙ w.packets;
        callers = λ j actor low among. subst (λ (x : NetState). CallerAlike (slice_get x.callers j) (Some (new_caller j actor 0))) (sym is) (w.callers j actor low among);
        idle = ap (λ xs. xs ++ worked_off l (fs ++ reverse (map coming comers))) (unserved b (slice_get (at fs).callers k) (first_on a b (at fs).packets) (ap (λ us. is_some (first_on a b us)) w.packets)) ∙ w.idle;
      }

  acted : (d : Command) (fs : List Event) → PutsNothing d → Begun fs → Begun (Act 0 d ∷ fs)
  acted d fs puts w = record {
    nets =
        subst (λ (x : NetState). NetsAlike ActAlike 1 x (lifted (happened (Act 0 d) (set fs)))) (lift-act d (at fs))
        (subst (λ (x : NetState). NetsAlike ActAlike 1 (happened (Act 1 d) (lifted (at fs))) x) (lift-act d (set fs))
        (command-alike ActAlike keep_acts 1 (lifted (at fs)) (lifted (set fs)) w.nets 1 d (omega arith) (omega arith)));
    packets = nothing (slice_get (at fs).callers 0);
    callers = λ j actor low is. subst (λ o. CallerAlike o (Some (new_caller j actor 0))) (sym (others j low (slice_get (at fs).callers 0))) (w.callers j actor low is);
    idle = w.idle;
  }
    where
      nothing : (o : Option Seated) → (commanded 0 d o (at fs)).packets ≡ []
      nothing None = w.packets
      nothing (Some v) = ap (λ us. put_all us (at fs).packets) (puts (turn_for d v (at fs)).place v) ∙ w.packets

      others : (j : ℕ) → 1 ≤ j → (o : Option Seated) → slice_get (commanded 0 d o (at fs)).callers j ≡ slice_get (at fs).callers j
      others j low None = refl
      others j low (Some v) = get-other (at fs).callers 0 j (act d (turn_for d v (at fs))).caller (λ same. omega (arith, low, same))

  one-acted : (k : ℕ) (d : Command) (fs : List Event) → k ≡ 0 → All PutsNothing (commands_of 0 (Act k d ∷ fs)) → (All PutsNothing (commands_of 0 fs) → Begun fs) → Begun (Act k d ∷ fs)
  one-acted zero d fs e puts before = acted d fs (All-head PutsNothing d (commands_of 0 fs) puts) (before (All-tail PutsNothing d (commands_of 0 fs) puts))
  one-acted (suc k) d fs e puts before = absurd (omega (arith, e))

  pub begun-all : (fs : List Event) → All IsOfSetup fs → All PutsNothing (commands_of 0 fs) → actor_among comers 0 ≡ Some first_actor → Begun fs
  begun-all [] of puts first = none first
  begun-all (Enter actor last ∷ fs) of puts first = absurd (All-head IsOfSetup (Enter actor last) fs of)
  begun-all (See k clock ∷ fs) of puts first = seen k clock fs (begun-all fs (All-tail IsOfSetup (See k clock) fs of) puts first)
  begun-all (Deliver k a b ∷ fs) of puts first = idled k a b fs (begun-all fs (All-tail IsOfSetup (Deliver k a b) fs of) puts first)
  begun-all (Act k d ∷ fs) of puts first =
      one-acted k d fs (All-head IsOfSetup (Act k d) fs of) puts (λ rest. begun-all fs (All-tail IsOfSetup (Act k d) fs of) rest first)

-- The race begins when the callers of the scripts have entered behind the setup.

after-append : (fs es : List Event) (n : NetState) → after (fs ++ es) n ≡ after fs (after es n)
after-append [] es n = refl
after-append (f ∷ fs) es n = ap (happened f) (after-append fs es n)

abbrev news : ℕ → ℕ → List Script → List Seated
news i last [] = []
news i last (s ∷ ss) = new_caller i s.actor last ∷ news (i + 1) last ss

get-news : (i last : ℕ) (ss : List Script) (q : ℕ) → slice_get (news i last ss) q ≡ option_map (λ (s : Script). new_caller (i + q) s.actor last) (slice_get ss q)
get-news i last [] q = refl
get-news i last (s ∷ ss) zero = (let e : i ≡ i + 0 = omega arith in ap (λ (j : ℕ). Some (new_caller j s.actor last)) e)
get-news i last (s ∷ ss) (suc q) =
    (let e : i + 1 + q ≡ i + suc q = omega arith in get-news (i + 1) last ss q ∙ ap (λ (j : ℕ). option_map (λ (s : Script). new_caller j s.actor last) (slice_get ss q)) e)

behind-one : (xs ys : List Seated) (q : ℕ) → length xs ≡ 1 → slice_get (xs ++ ys) (suc q) ≡ slice_get ys q
behind-one [] ys q e = absurd (omega (arith, e))
behind-one (x ∷ []) ys q e = refl
behind-one (x ∷ z ∷ xs) ys q e = absurd (omega (arith, e))

enter-all : (last : ℕ) (ss : List Script) (n : NetState) → after (reverse (map (λ (s : Script). Enter s.actor last) ss)) n ≡ record n { callers = n.callers ++ news (length n.callers) last ss }
enter-all last [] n = ap (λ (cs : List Seated). let x : NetState = record n { callers = cs } in x) (sym (append-nil n.callers))
enter-all last (s ∷ ss) n =
    let rest = map (λ (s : Script). Enter s.actor last) ss in
    let x = new_caller (length n.callers) s.actor last in
    ap (λ es. after es n) (reverse-append (Enter s.actor last ∷ []) rest) ∙ after-append (reverse rest) (Enter s.actor last ∷ []) n
    ∙ enter-all last ss (happened (Enter s.actor last) n)
    ∙ ap (λ (cs : List Seated). let y : NetState = record n { callers = cs } in y)
    (ap (λ (i : ℕ). (n.callers ++ x ∷ []) ++ news i last ss) (length-append n.callers (x ∷ [])) ∙ append_assoc n.callers (x ∷ []) (news (length n.callers + 1) last ss))

length-set : (xs : List Seated) (i : ℕ) (x : Seated) → length (slice_set xs i x) ≡ length xs
length-set [] i x = refl
length-set (y ∷ xs) zero x = refl
length-set (y ∷ xs) (suc i) x = ap suc (length-set xs i x)

one-caller : (l : Layout) (ds : List Command) → length (schedule l (map (Act 0) ds ++ starting ∷ [])).callers ≡ 1
one-caller l [] = refl
one-caller l (d ∷ ds) = by (slice_get (schedule l (map (Act 0) ds ++ starting ∷ [])).callers 0) (one-caller l ds)
  where
    by : (o : Option Seated) → length (schedule l (map (Act 0) ds ++ starting ∷ [])).callers ≡ 1 → length (commanded 0 d o (schedule l (map (Act 0) ds ++ starting ∷ []))).callers ≡ 1
    by None ih = ih
    by (Some w) ih = length-set (schedule l (map (Act 0) ds ++ starting ∷ [])).callers 0 _ ∙ ih

-- Before the race the seats with scripts gave nothing, and nothing was answered.

abbrev IsFirst : Event → Type 0
IsFirst (Enter actor last) = Unit {0}
IsFirst (Act k d) = k ≡ 0
IsFirst (Deliver k a b) = ⊥
IsFirst (See k clock) = ⊥

first-gives : (i : ℕ) (e : Event) → IsFirst e → Gives-none (suc i) e
first-gives i (Enter actor last) h = λ cs. refl
first-gives i (Deliver k a b) h = absurd h
first-gives i (See k clock) h = absurd h
first-gives i (Act k d) h = λ cs. ap (λ (b : Bool). cond b (d ∷ cs) cs) (ne_eqb k (suc i) (λ same. omega (arith, h, same)))

pub base-gives : (c : Scene) (i : ℕ) → commands_of (suc i) (reverse (base c)) ≡ []
base-gives c i =
    none-given (suc i) (reverse (base c))
    (all-of (first-gives i) (reverse (base c))
    (All-reverse IsFirst (base c)
    (All-append IsFirst (starting ∷ in_setup c) (entering c) (All-cons IsFirst starting (in_setup c) tt (each IsFirst (Act 0) (setup_commands c) (λ d. refl))) (each IsFirst _ c.scripts (λ s. tt)))))

pub setup-gave : (comers : List Comer) (i : ℕ) (fs : List Event) → All IsOfSetup fs → commands_of (suc i) (fs ++ reverse (map coming comers)) ≡ []
setup-gave comers i fs of =
    none-given (suc i) (fs ++ reverse (map coming comers))
    (All-append (Gives-none (suc i)) fs (reverse (map coming comers)) (all-of (setup-gives i) fs of)
    (All-reverse (Gives-none (suc i)) (map coming comers) (each (Gives-none (suc i)) coming comers (λ c cs. refl))))

setup-answered : (l : Layout) (comers : List Comer) (i : ℕ) (fs : List Event) → All IsOfSetup fs → answered_by l (suc i) (fs ++ reverse (map coming comers)) ≡ []
setup-answered l comers i fs of =
    none-answered l (suc i) (fs ++ reverse (map coming comers))
    (All-append (Answers-none (suc i)) fs (reverse (map coming comers)) (all-of (setup-answers i) fs of)
    (All-reverse (Answers-none (suc i)) (map coming comers) (each (Answers-none (suc i)) coming comers (λ c n. refl))))

pub come-gives : (comers : List Comer) (k : ℕ) → commands_of k (reverse (map coming comers)) ≡ []
come-gives comers k = none-given k (reverse (map coming comers)) (All-reverse (Gives-none k) (map coming comers) (each (Gives-none k) coming comers (λ c cs. refl)))

-- a new caller of any last clock
relast : (o : Option Seated) (k : ℕ) (actor : Ui) (last : ℕ) → CallerAlike o (Some (new_caller k actor 0)) → CallerAlike o (Some (new_caller k actor last))
relast None k actor last h = absurd h
relast (Some w) k actor last h = record { last = last; is = ap (λ (x : Seated). after_tick x last) h.is }

some-at : {X : Type 0} (xs : List X) (i : ℕ) → suc i ≤ length xs → (x : X) × (slice_get xs i ≡ Some x)
some-at [] i le = absurd (omega (arith, le))
some-at (x ∷ xs) zero le = (x, refl)
some-at (x ∷ xs) (suc i) le = some-at xs i (omega (arith, le))

module _ (c : Scene) (comers : List Comer) (fs : List Event) (of : All IsOfSetup fs) (came : (k : ℕ) (actor : Ui) → callers_of c k ≡ Some actor → actor_among comers k ≡ Some actor)
    (gave : commands_of 0 fs ≡ reverse (setup_commands c)) where
  abbrev done : NetState
  done = schedule c.layout (map (Act 0) (commands_of 0 fs) ++ starting ∷ [])

  abbrev last : ℕ
  last = last_of (slice_get (set_up c).callers 0)

  set-begun : Begun c.layout comers fs
  set-begun =
      begun-all c.layout comers fs of (subst (All PutsNothing) (sym gave) (All-reverse PutsNothing (setup_commands c) (none-put c.setup))) (came 0 first_actor refl)

  race-is : (race_of c).net ≡ record done { callers = done.callers ++ news 1 last c.scripts }
  race-is =
      ap (schedule c.layout)
      (reverse-append (starting ∷ in_setup c) (entering c)
      ∙ ap (λ xs. reverse (entering c) ++ xs)
      (reverse-append (starting ∷ []) (in_setup c) ∙ ap (λ xs. xs ++ starting ∷ []) (sym (map-reverse (Act 0) (setup_commands c)) ∙ ap (map (Act 0)) (sym gave))))
      ∙ after-append (reverse (entering c)) (map (Act 0) (commands_of 0 fs) ++ starting ∷ []) (opening c.layout)
      ∙ enter-all last c.scripts done
      ∙ ap (λ (i : ℕ). let x : NetState = record done { callers = done.callers ++ news i last c.scripts } in x) (one-caller c.layout (commands_of 0 fs))

  there : (k : ℕ) → 1 ≤ k → k ≤ length c.scripts → CallerAlike (slice_get (schedule c.layout (fs ++ reverse (map coming comers))).callers k) (slice_get (done.callers ++ news 1 last c.scripts) k)
  there zero low high = absurd (omega (arith, low))
  there (suc i) low high =
      let s = some-at c.scripts i high in
      let among : callers_of c (suc i) ≡ Some s.0.actor = slice_get-map (λ (script : Script). script.actor) c.scripts i ∙ ap (option_map (λ (script : Script). script.actor)) s.1 in
      let seat : 1 + i ≡ suc i = omega arith in
      let is : slice_get (done.callers ++ news 1 last c.scripts) (suc i) ≡ Some (new_caller (suc i) s.0.actor last) =
      behind-one done.callers (news 1 last c.scripts) i (one-caller c.layout (commands_of 0 fs)) ∙ get-news 1 last c.scripts i
      ∙ ap (option_map (λ (script : Script). new_caller (1 + i) script.actor last)) s.1 ∙ ap (λ (k : ℕ). Some (new_caller k s.0.actor last)) seat in
      subst (CallerAlike (slice_get (schedule c.layout (fs ++ reverse (map coming comers))).callers (suc i))) (sym is)
      (relast (slice_get (schedule c.layout (fs ++ reverse (map coming comers))).callers (suc i)) (suc i) s.0.actor last (set-begun.callers (suc i) s.0.actor low (came (suc i) s.0.actor among)))

  -- so the race is followed from there
  pub start : Follows c (fs ++ reverse (map coming comers)) []
  start = record {
    moves = [];
    history = tt;
    nets = subst (NetsAlike ActAlike (length c.scripts) (schedule c.layout (fs ++ reverse (map coming comers)))) (sym race-is)
        (record { layout = set-begun.nets.layout; places = set-begun.nets.places; packets = set-begun.nets.packets; callers = there });
    gave = λ i. base-gives c i ∙ sym (setup-gave comers i fs of);
    told = λ i. silent-first i c ∙ sym (setup-answered c.layout comers i fs of);
    served = ap length (idle-first c ∙ sym set-begun.idle);
  }
