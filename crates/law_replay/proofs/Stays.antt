-- What a scenario leaves on more sites, and that version one stays.
-- l is a layout, n a number of sites, `more` the places of the further sites, c and d are scenarios.
use Rattle.std.proofs.Common.{ℕ, ◌≡◌, ◌≤◌, ◌<◌, true, cond, List, [], ◌∷◌, ◌++◌, map, reverse, Option, Some, None, Result, Ok, slice_get, refl, sym, ◌∙◌, ap, subst, append_assoc, arith}
use Rattle.std.specs.List.{All}
use Rattle.std.proofs.lemmas.List.{map-append, reverse-append}
use Rattle.std.proofs.lemmas.List.Elements.{All-nil, All-cons, All-head, All-tail, All-weaker}
use Rattle.chorus_ui.specs.declared.layout.Layout.{Layout}
use Rattle.chorus_ui.specs.Layout.{IsLayout}
use Rattle.chorus_entry.specs.declared.entry.Entry.{Entry}
use Rattle.chorus_calls.specs.Callers.{Seated}
use Rattle.law_machine.specs.PlaceState.{PlaceState, started}
use Rattle.chorus_merge.specs.Merge.{merged}
use Rattle.law_network.specs.Left.{journals, merge}
use Rattle.law_network.specs.Network.{NetState, Event, Enter, numbers, opening, schedule, round, rounds}
use Rattle.law_network.specs.Calls.{starting, last_of}
use Rattle.law_network.specs.Schedules.{may_be}
use Rattle.law_network.specs.Tasks.{Task, Do, Drain, CarryOut}
use Rattle.law_network.proofs.Draining.Drains.{carried-out-once}
use Rattle.law_network.proofs.Draining.Ending.{tasks-carried-out}
use Rattle.law_network.proofs.Merge.Parts.{All-reverse}
use Rattle.chorus_net.specs.declared.closed.Closed.{Closed}
use Rattle.chorus_scene.specs.Scene.{Scene, Script}
use Rattle.chorus_scene.specs.Grammar.{read_scene}
use Rattle.chorus_scene.specs.Limits.{Keeps}
use Rattle.chorus_scene.proofs.Kept.{kept, old_do_not_wait}
use Rattle.chorus_scene.proofs.Law.{printed_again}
use Rattle.chorus_show.specs.declared.status.Status.{Status}
use Rattle.chorus_show.specs.Journal.{journal_text}
use Rattle.chorus_show.specs.Summary.{summary_text}
use Rattle.chorus_replay.specs.Order.{in_setup, set_up, in_schedule, left_from, tasks}
use Rattle.chorus_report.specs.Reading.{bytes_read}
use Rattle.chorus_show.specs.Report.{report_with}
use Rattle.chorus_show.specs.declared.stuck.Stuck.{Stuck}
use Rattle.chorus_net.specs.Closing.{merge_of}
use Rattle.chorus_replay.specs.Ordered.{IsOrdered, NoneStuckUnless}
use Rattle.chorus_replay.specs.Laws.{worn_clock}
use Rattle.chorus_replay.specs.Performing.{to_enter}
use Rattle.chorus_replay.proofs.Loops.{order-is}
use Rattle.chorus_replay.proofs.May.{tasks-may}
use Rattle.chorus_replay.proofs.Static.{replays-without-waits}
use Rattle.chorus_replay.proofs.Once.{Ends, All-done, Worn-at, ends-as, one-end}
use Rattle.chorus_replay.proofs.Stepping.{may-suffix}
use Rattle.law_replay.specs.Version.{eight, sixteen, with_layout, SaysTheSame, IsOfVersionOne, MergesTheSame, AreAlike, ClosesTheSame, WritesTheSame}
use Rattle.law_replay.proofs.Places.{layout_on, place_on}
use Rattle.law_replay.proofs.Nets.{net_on, EventWithin, is_near, near}
use Rattle.law_replay.proofs.Schedules.{Agree, agree}
use Rattle.law_replay.proofs.Merges.{IsEmpty, merged-front}
use Rattle.law_replay.proofs.Carrying.{TaskWithin, carried-within, carry-down}
use Rattle.law_replay.proofs.Wearing.{unworn-down, worn-down, worn-within}
use Rattle.law_replay.proofs.Reading.{scene_on, read-on}
use Rattle.law_replay.proofs.Tasks.{EventFits, setup-fits, tasks-within}

-- Lists.

reverse-map : {X Y : Type 0} (f : X → Y) (xs : List X) → reverse (map f xs) ≡ map f (reverse xs)
reverse-map f [] = refl
reverse-map f (x ∷ xs) =
    reverse-append (f x ∷ []) (map f xs) ∙ ap (λ ys. ys ++ f x ∷ []) (reverse-map f xs)
    ∙ sym (ap (map f) (reverse-append (x ∷ []) xs) ∙ map-append f (reverse xs) (x ∷ []))

near-all : (l : Layout) (es : List Event) → All (λ (e : Event). is_near l e ≡ true) es → near l es ≡ es
near-all l [] h = refl
near-all l (e ∷ es) h =
    let Near : Event → Type 0 = λ (z : Event). is_near l z ≡ true in
    ap (λ b. cond b (e ∷ near l es) (near l es)) (All-head Near e es h) ∙ ap (λ (xs : List Event). e ∷ xs) (near-all l es (All-tail Near e es h))

-- What carries out tasks ends with what carries out the first of them.

carry-end : (l : Layout) (ts us : List Task) (fs : List Event) → CarryOut l (ts ++ us) fs → (older : List Event) × (CarryOut l us older × ((z : List Event) × (fs ≡ z ++ older)))
carry-end l [] us fs c = (fs, (c, ([], refl)))
carry-end l (Do e ∷ ts) us fs c =
    let k = carry-end l ts us c.0 c.1.1 in (k.0, (k.1.0, (e ∷ k.1.1.0, c.1.0 ∙ ap (λ (xs : List Event). e ∷ xs) k.1.1.1)))
carry-end l (Drain seat ∷ ts) us fs c =
    let k = carry-end l ts us c.0 c.1.1 in
    let d = c.1.0 in
    (k.0, (k.1.0, (rounds l seat d.count ++ k.1.1.0, d.rounds ∙ ap (λ (xs : List Event). rounds l seat d.count ++ xs) k.1.1.1 ∙ sym (append_assoc (rounds l seat d.count) k.1.1.0 k.0))))

carry-done : (l : Layout) (es fs : List Event) → CarryOut l (map Do es) fs → fs ≡ es
carry-done l [] fs c = c
carry-done l (e ∷ es) fs c = c.1.0 ∙ ap (λ (xs : List Event). e ∷ xs) (carry-done l es c.0 c.1.1)

-- the last of a scenario's tasks are its setup
set-up-last : (c : Scene) → tasks c ≡ reverse (to_enter c) ++ map Do (reverse (starting ∷ in_setup c))
set-up-last c =
    let first : List Event = starting ∷ in_setup c in
    ap reverse (order-is c) ∙ reverse-append (map Do first) (to_enter c) ∙ ap (λ (ts : List Task). reverse (to_enter c) ++ ts) (reverse-map Do first)

-- A scenario on more sites.

module _ (n : ℕ) (more : List PlaceState) (c : Scene) (shape : IsLayout c.layout) (shape_on : IsLayout (layout_on n c.layout)) (wider : c.layout.sites ≤ n)
    (start : opening (layout_on n c.layout) ≡ net_on n more (opening c.layout)) (fit : (seat : ℕ) → near c.layout (round (layout_on n c.layout) seat) ≡ round c.layout seat)
    (empty : All IsEmpty (map (λ (s : PlaceState). reverse s.journal) more)) (keeps : Keeps c) (keeps_on : Keeps (scene_on n c)) where
  -- Seat 0 has the same last clock behind the setup, so the tasks are the same.

  abbrev set_up_events : List Event
  set_up_events = reverse (starting ∷ in_setup c)

  set-up-may : may_be (layout_on n c.layout) set_up_events ≡ true
  set-up-may =
      let wide = layout_on n c.layout in
      let d = scene_on n c in
      let done = tasks-carried-out wide (tasks d) shape_on (tasks-may d shape_on keeps_on) in
      let end = carry-end wide (reverse (to_enter d)) (map Do set_up_events) done.0 (subst (λ (ts : List Task). CarryOut wide ts done.0) (set-up-last d) done.1.0) in
      let is = carry-done wide set_up_events end.0 end.1.0 in
      ap (may_be wide) (sym is) ∙ may-suffix wide end.1.1.0 end.0 (ap (may_be wide) (sym end.1.1.1) ∙ done.1.1)

  set-up-fits : All (EventFits n c.layout) set_up_events
  set-up-fits = All-reverse (EventFits n c.layout) (starting ∷ in_setup c) (setup-fits n c shape wider keeps)

  set-up-agree : Agree n more c.layout set_up_events
  set-up-agree =
      agree n more c.layout shape wider start set_up_events set-up-may
      (All-weaker (EventFits n c.layout) (EventWithin n c.layout) (λ e h. h.0) set_up_events set-up-fits)

  callers-same : (set_up (scene_on n c)).callers ≡ (set_up c).callers
  callers-same =
      let l = c.layout in
      let near_same = near-all l set_up_events (All-weaker (EventFits n l) (λ (e : Event). is_near l e ≡ true) (λ e h. h.1) set_up_events set-up-fits) in
      ap (λ (m : NetState). m.callers) (set-up-agree.same ∙ ap (λ (es : List Event). net_on n more (schedule l es)) near_same)

  pub tasks-same : tasks (scene_on n c) ≡ tasks c
  tasks-same =
      ap (λ (cs : List Seated). reverse (map Do (starting ∷ in_setup c ++ map (λ (script : Script). Enter script.actor (last_of (slice_get cs 0))) c.scripts) ++ in_schedule c.scripts [] c.schedule ++ left_from c.schedule 1 c.scripts ++ Drain 0 ∷ [])) callers-same

  within : All (TaskWithin n c.layout) (tasks c)
  within = tasks-within n c shape wider keeps

  -- The merges are the same.

  journals-on : (ps : List PlaceState) → map (λ (s : PlaceState). reverse s.journal) (map (place_on n) ps ++ more) ≡ map (λ (s : PlaceState). reverse s.journal) ps ++ map (λ (s : PlaceState). reverse s.journal) more
  journals-on [] = refl
  journals-on (s ∷ ps) = ap (λ (js : List (List Entry)). reverse s.journal ∷ js) (journals-on ps)

  merge-on : (fs : List Event) → may_be (layout_on n c.layout) fs ≡ true → All (EventWithin n c.layout) fs → merge (schedule (layout_on n c.layout) fs) ≡ merge (schedule c.layout (near c.layout fs))
  merge-on fs may all =
      let net = schedule c.layout (near c.layout fs) in
      ap (λ (m : NetState). merge m) (agree n more c.layout shape wider start fs may all).same
      ∙ ap merged (journals-on net.places) ∙ merged-front (journals net) (map (λ (s : PlaceState). reverse s.journal) more) empty

  pub merges-same : (es fs : List Event) → CarryOut c.layout (tasks c) es → CarryOut (layout_on n c.layout) (tasks (scene_on n c)) fs → merge (schedule c.layout es) ≡ merge (schedule (layout_on n c.layout) fs)
  merges-same es fs these those =
      let l = c.layout in
      let wide = layout_on n c.layout in
      let d = scene_on n c in
      let done = tasks-carried-out wide (tasks d) shape_on (tasks-may d shape_on keeps_on) in
      let gs = done.0 in
      let here : CarryOut wide (tasks c) gs = subst (λ (ts : List Task). CarryOut wide ts gs) tasks-same done.1.0 in
      let down = carry-down n more l shape wider start fit (tasks c) gs within done.1.1 here in
      ap (λ (m : NetState). merge m) (carried-out-once l (tasks c) es (near l gs) these down)
      ∙ sym (merge-on gs done.1.1 (carried-within n l wide (tasks c) gs within here))
      ∙ ap (λ (m : NetState). merge m) (carried-out-once wide (tasks d) gs fs done.1.0 those)

  -- And so are the ends of two replays.

  ends-within : (fs : List Event) (o : Option ℕ) → Ends (layout_on n c.layout) (tasks c) fs o → All (EventWithin n c.layout) fs
  ends-within fs _ (All-done done) = carried-within n c.layout (layout_on n c.layout) (tasks c) fs within done
  ends-within fs _ (Worn-at clock v) = worn-within n more c.layout shape wider start fit (tasks c) fs clock within v

  ends-down : (fs : List Event) (o : Option ℕ) → may_be (layout_on n c.layout) fs ≡ true → Ends (layout_on n c.layout) (tasks c) fs o → Ends c.layout (tasks c) (near c.layout fs) o
  ends-down fs _ may (All-done done) = All-done (carry-down n more c.layout shape wider start fit (tasks c) fs within may done)
  ends-down fs _ may (Worn-at clock v) = Worn-at clock (worn-down n more c.layout shape wider start fit (tasks c) fs clock within may v)

  pub alike : (s t : Status) (one other : Closed) → IsOrdered c.layout (tasks c) s one → IsOrdered (layout_on n c.layout) (tasks (scene_on n c)) t other → AreAlike s t one other
  alike s t one other a b =
      let l = c.layout in
      let wide = layout_on n c.layout in
      let ends : Ends wide (tasks c) b.events (worn_clock t) = subst (λ (ts : List Task). Ends wide ts b.events (worn_clock t)) tasks-same (ends-as wide (tasks (scene_on n c)) t b.events b.carried) in
      let all = ends-within b.events (worn_clock t) ends in
      let down = ends-down b.events (worn_clock t) b.may ends in
      let agrees = agree n more l shape wider start b.events b.may all in
      let same = one-end l (tasks c) a.events (near l b.events) (worn_clock s) (worn_clock t) shape a.may agrees.may a.unworn
      (unworn-down n more l shape wider start fit b.events all b.may b.unworn) (ends-as l (tasks c) s a.events a.carried) down in
      let merges : merge_of one ≡ merge_of other =
      ap merged (a.closes).left.journals ∙ ap (λ (m : NetState). merge m) same.1 ∙ sym (merge-on b.events b.may all) ∙ sym (ap merged (b.closes).left.journals) in
      record { worn = same.0; merge = merges; text = ap (λ (es : List Entry). journal_text es ++ summary_text es) merges }

-- On 8 and on 16 sites.

shape-eight : IsLayout eight
shape-eight = record { sites_from_one = omega arith; sites_to_max = omega arith; turns_from_one = omega arith; turns_to_four = omega arith; turns_not_three = λ e. absurd (omega (arith, e)) }

shape-sixteen : IsLayout sixteen
shape-sixteen = record { sites_from_one = omega arith; sites_to_max = omega arith; turns_from_one = omega arith; turns_to_four = omega arith; turns_not_three = λ e. absurd (omega (arith, e)) }

abbrev further : List PlaceState
further = map (started sixteen) (numbers 8 9)

started-empty : (l : Layout) (ps : List ℕ) → All IsEmpty (map (λ (s : PlaceState). reverse s.journal) (map (started l) ps))
started-empty l [] = All-nil IsEmpty
started-empty l (p ∷ ps) = All-cons IsEmpty [] (map (λ (s : PlaceState). reverse s.journal) (map (started l) ps)) refl (started-empty l ps)

opens-so : opening sixteen ≡ net_on 16 further (opening eight)
opens-so = refl

round-so : (seat : ℕ) → near eight (round sixteen seat) ≡ round eight seat
round-so seat = refl

pub says-the-same : SaysTheSame
says-the-same =
    ((λ text c h one. go eight 16 (omega arith) (omega arith) text c h one), (λ text c h one. go sixteen 8 (omega arith) (omega arith) text c h one))
  where
    go : (l : Layout) (n : ℕ) → 8 ≤ n → 8 ≤ l.sites → (text : List ℕ) (c : Scene) → read_scene l text ≡ Ok c → c.version ≡ 1 → read_scene (layout_on n l) text ≡ Ok (with_layout (layout_on n l) c)
    go l n few many text c h one = read-on n few l text c many h one ∙ ap (λ (z : Layout). Ok (with_layout (layout_on n z) c)) (printed_again l text c h).0

module _ (text : List ℕ) (c d : Scene) (v : IsOfVersionOne text c d) where
  lay : eight ≡ c.layout
  lay = sym (printed_again eight text c v.eight).0

  abbrev Here : Layout → Type 0
  Here l = (IsLayout l × IsLayout (layout_on 16 l) × (l.sites ≤ 16)) × (opening (layout_on 16 l) ≡ net_on 16 further (opening l)) × ((seat : ℕ) → near l (round (layout_on 16 l) seat) ≡ round l seat)

  here : Here c.layout
  here = subst Here lay ((shape-eight, shape-sixteen, omega arith), opens-so, round-so)

  other-is : d ≡ scene_on 16 c
  other-is = ok-is (sym v.sixteen ∙ read-on 16 (omega arith) eight text c (omega arith) v.eight v.one)
    where
      ok-is : ◌≡◌ {A = Result Scene (ℕ × ℕ)} (Ok d) (Ok (scene_on 16 c)) → d ≡ scene_on 16 c
      ok-is e = cc

  keeps : Keeps c
  keeps = kept eight text c v.eight

  keeps-on : Keeps (scene_on 16 c)
  keeps-on = subst Keeps other-is (kept sixteen text d v.sixteen)

  wide-is : sixteen ≡ layout_on 16 c.layout
  wide-is = ap (layout_on 16) lay

  empty : All IsEmpty (map (λ (s : PlaceState). reverse s.journal) further)
  empty = started-empty sixteen (numbers 8 9)

  text-merges : (es fs : List Event) → CarryOut eight (tasks c) es → CarryOut sixteen (tasks d) fs → merge (schedule eight es) ≡ merge (schedule sixteen fs)
  text-merges es fs these those =
      let h = here in
      ap (λ (l : Layout). merge (schedule l es)) lay
      ∙ merges-same 16 further c h.0.0 h.0.1 h.0.2 h.1 h.2 empty keeps keeps-on es fs (subst (λ (l : Layout). CarryOut l (tasks c) es) lay these) (subst (λ (l : Layout). CarryOut l (tasks (scene_on 16 c)) fs) wide-is (subst (λ (z : Scene). CarryOut sixteen (tasks z) fs) other-is those))
      ∙ ap (λ (l : Layout). merge (schedule l fs)) (sym wide-is)

  text-replays : (s t : Status) (one other : Closed) → IsOrdered eight (tasks c) s one → IsOrdered sixteen (tasks d) t other → AreAlike s t one other
  text-replays s t one other a b =
      let h = here in
      alike 16 further c h.0.0 h.0.1 h.0.2 h.1 h.2 empty keeps keeps-on s t one other (subst (λ (l : Layout). IsOrdered l (tasks c) s one) lay a) (subst (λ (l : Layout). IsOrdered l (tasks (scene_on 16 c)) t other) wide-is (subst (λ (z : Scene). IsOrdered sixteen (tasks z) t other) other-is b))

pub merges-the-same : MergesTheSame
merges-the-same text c d es fs v these those = text-merges text c d v es fs these those

pub closes-the-same : ClosesTheSame
closes-the-same text c d s t one other v a b = text-replays text c d v s t one other a b

none-stuck : (s : Status) (stuck : List Stuck) → worn_clock s ≡ None → NoneStuckUnless s stuck → stuck ≡ []
none-stuck Status.Done stuck none h = h
none-stuck Status.Usage stuck none h = h
none-stuck (Status.Scenario line reason) stuck none h = h
none-stuck Status.ReadFault stuck none h = h
none-stuck Status.WriteFault stuck none h = h
none-stuck Status.Memory stuck none h = h
none-stuck (Status.Worn clock) stuck none h = absurd (cc)

pub writes-the-same : WritesTheSame
writes-the-same input stuck others s t one other these those version =
    let c = these.runs.scene in
    let d = those.runs.scene in
    let v : IsOfVersionOne (bytes_read input) c d = record {
      eight = ap (read_scene eight) (sym (these.runs.given).read) ∙ (these.runs.given).given;
      sixteen = ap (read_scene sixteen) (sym (those.runs.given).read) ∙ (those.runs.given).given;
      one = version;
    } in
    let older : d.version < 3 = (let same = ap (λ (z : Scene). z.version) (other-is (bytes_read input) c d v) in omega (arith, same, version)) in
    let first = replays-without-waits eight (Some input) stuck s one shape-eight these (old_do_not_wait eight (bytes_read input) c v.eight (omega (arith, version))) in
    let second = replays-without-waits sixteen (Some input) others t other shape-sixteen those (old_do_not_wait sixteen (bytes_read input) d v.sixteen older) in
    let same = closes-the-same (bytes_read input) c d s t one other v first.0 second.0 in (
      same,
      λ none.
          (ap (λ zs. report_with zs (merge_of one)) (none-stuck s stuck none first.1) ∙ ap (report_with []) same.merge
          ∙ sym (ap (λ zs. report_with zs (merge_of other)) (none-stuck t others (sym same.worn ∙ none) second.1))),
    )
