-- The next task on the network that the tasks before it left.
use Rattle.std.proofs.Common.{ℕ, ◌≡◌, ◌<◌, ◌≤◌, ◌==◌, ◌&&◌, not, is_some, true, List, [], ◌∷◌, ◌++◌, reverse, Option, Some, None, slice_get, refl, sym, ◌∙◌, ap, subst, append_assoc, append-nil, inl, inr}
use Rattle.std.proofs.lemmas.Bool.{and_parts, and_from, eq-eqb, false≢true}
use Rattle.std.proofs.lemmas.List.{reverse-append}
use Rattle.chorus_ui.specs.declared.layout.Layout.{Layout}
use Rattle.chorus_ui.specs.declared.limits.TheConstants.{CLOCK_LIMIT}
use Rattle.chorus_ui.specs.Layout.{IsLayout, has_actor, has_place}
use Rattle.chorus_ui.specs.declared.ui.Ui.{Ui}
use Rattle.chorus_ui.specs.NameKind.{is_actor}
use Rattle.chorus_entry.specs.declared.command.Command.{Command}
use Rattle.chorus_net.specs.declared.closed.Closed.{Closed}
use Rattle.law_network.specs.Calls as calls
use Rattle.law_network.specs.Calls.{starting, just_started, compared}
use Rattle.law_network.specs.Network.{NetState, Event, Act, happened, after, opening, schedule, round, rounds, served}
use Rattle.chorus_entry.specs.declared.entry.Entry.{Entry}
use Rattle.chorus_merge.specs.Merge.{merged}
use Rattle.law_network.specs.History.{history}
use Rattle.law_network.specs.Left.{merged_past}
use Rattle.law_network.specs.Schedules.{may_happen, may_be}
use Rattle.law_network.specs.Tasks.{Task, Do, Drain, CarryOut, MayAll}
use Rattle.law_network.proofs.Draining.Drains.{after-append, layout-stays}
use Rattle.law_network.proofs.Draining.Ending.{caller-actor, rounds-may}
use Rattle.chorus_show.specs.declared.status.Status.{Status}
use Rattle.chorus_scene.specs.Scene.{Scene}
use Rattle.chorus_scene.specs.Limits.{Keeps}
use Rattle.chorus_replay.specs.Order.{order}
use Rattle.chorus_net.specs.Worn.{compared_by, IsUnworn, AreUnworn, IsInRounds, IsWornIn}
use Rattle.chorus_replay.specs.Worn.{ComesNext}
use Rattle.chorus_report.specs.Headline.{HasClock}
use Rattle.chorus_net.specs.Closing.{IsClosed, merge_of, past_of}
use Rattle.chorus_net.specs.Drains.{Drains}
use Rattle.chorus_net.specs.Sites.{AreTwoPlaces}
use Rattle.chorus_replay.specs.Performing.{AreLeft, AreStopped, ArePerformed, ArePlayed, HaveClocks}
use Rattle.chorus_replay.specs.Ordered.{IsOrdered}
use Rattle.chorus_replay.proofs.May.{tasks-may, first-there}
use Rattle.chorus_replay.proofs.Clocks.{BeginsSo, clocks-more, clocks-delivered, clocks-start, first-clock, worn-in-merge, has-reverse}
use Rattle.chorus_replay.proofs.Plays.{deliveries, in-rounds}

pub may-older : (l : Layout) (newer older : List Task) → MayAll l (newer ++ older) → MayAll l older
may-older l [] older h = h
may-older l (Do e ∷ newer) older h = may-older l newer older h.1
may-older l (Drain k ∷ newer) older h = may-older l newer older h.1

pub comes-more : (l : Layout) (newer older : List Task) (next : Event) (es : List Event) → ComesNext l older next es → ComesNext l (newer ++ older) next es
comes-more l [] older next es h = h
comes-more l (Do e ∷ newer) older next es h = inr (comes-more l newer older next es h)
comes-more l (Drain k ∷ newer) older next es h = inr (comes-more l newer older next es h)

turned : (all done : List Task) (t : Task) (rest : List Task) → all ≡ done ++ t ∷ rest → reverse all ≡ reverse rest ++ t ∷ reverse done
turned all done t rest e =
    ap reverse e ∙ reverse-append done (t ∷ rest)
    ∙ ap (λ z. z ++ reverse done) (reverse-append (t ∷ []) rest)
    ∙ append_assoc (reverse rest) (t ∷ []) (reverse done)

unworn-append : (xs ys : List Event) (n : NetState) → AreUnworn xs (after ys n) → AreUnworn ys n → AreUnworn (xs ++ ys) n
unworn-append [] ys n h k = k
unworn-append (x ∷ xs) ys n h k = (subst (λ m. IsUnworn (compared_by x m)) (sym (after-append xs ys n)) h.0, unworn-append xs ys n h.1 k)

pub may-suffix : (l : Layout) (xs ys : List Event) → may_be l (xs ++ ys) ≡ true → may_be l ys ≡ true
may-suffix l [] ys h = h
may-suffix l (x ∷ xs) ys h = may-suffix l xs ys (and_parts (may_happen x (schedule l (xs ++ ys))) (may_be l (xs ++ ys)) h).1

two-places : (a b : ℕ) (n : NetState) → may_happen (calls.delivering a b) n ≡ true → AreTwoPlaces n.layout a b
two-places a b n h =
    let last = and_parts (is_some (slice_get n.callers 0) && has_place n.layout a && has_place n.layout b) (not (a == b)) h in
    let to = and_parts (is_some (slice_get n.callers 0) && has_place n.layout a) (has_place n.layout b) last.0 in
    let from = and_parts (is_some (slice_get n.callers 0)) (has_place n.layout a) to.0 in
    record { from = from.1; to = to.1; apart = λ same. false≢true (sym (ap not (eq-eqb a b same)) ∙ last.1) }

-- on a layout each task of an order may be done when those before it are carried out
pub record CanBe (l : Layout) (all : List Task) : Type 0 where
  pub shape : IsLayout l
  pub may : MayAll l (reverse all)

pub can : (c : Scene) → IsLayout c.layout → Keeps c → CanBe c.layout (order c)
can c shape keeps = record { shape = shape; may = tasks-may c shape keeps }

module _ {l : Layout} {all : List Task} (can : CanBe l all) where
  -- an event that comes next may happen
  pub step-may : (e : Event) (rest : List Task) (n : NetState) → AreLeft l all (Do e ∷ rest) n → may_happen e n ≡ true
  step-may e rest n b =
      let may = may-older l (reverse rest) (Do e ∷ reverse b.done) (subst (MayAll l) (turned all b.done (Do e) rest b.whole) can.may) in
      ap (may_happen e) b.is ∙ may.0 b.events b.carried

  -- behind it the rest is left
  pub step-done : (e : Event) (rest : List Task) (n new : NetState) → AreLeft l all (Do e ∷ rest) n → new ≡ happened e n → IsUnworn (compared_by e n) → ((past : List Entry) → HaveClocks past n → BeginsSo past e) → AreLeft l all rest new
  step-done e rest n new b is unworn begins = record {
    done = b.done ++ Do e ∷ [];
    whole = b.whole ∙ sym (append_assoc b.done (Do e ∷ []) rest);
    events = e ∷ b.events;
    is = is ∙ ap (happened e) b.is;
    carried = subst (λ ts. CarryOut l ts (e ∷ b.events)) (sym (reverse-append b.done (Do e ∷ []))) (b.events, (refl, b.carried));
    may = and_from (may_happen e (schedule l b.events)) (may_be l b.events) (ap (may_happen e) (sym b.is) ∙ step-may e rest n b) b.may;
    unworn = (subst (λ m. IsUnworn (compared_by e m)) b.is unworn, b.unworn);
    clocks = clocks-more l e b.events (begins (history l b.events) (subst (HaveClocks (history l b.events)) (sym b.is) b.clocks)) b.clocks;
  }

  -- or a clock is worn there
  pub step-worn : (e : Event) (rest : List Task) (n new : NetState) (clock : ℕ) → AreLeft l all (Do e ∷ rest) n → new ≡ n → compared_by e n ≡ Some clock → CLOCK_LIMIT ≤ clock → AreStopped l all clock new
  step-worn e rest n new clock b same compares worn = record {
    events = b.events;
    is = same ∙ b.is;
    may = b.may;
    unworn = b.unworn;
    clocks = b.clocks;
    worn = record {
      next = e;
      comes = subst (λ ts. ComesNext l ts e b.events) (sym (turned all b.done (Do e) rest b.whole))
          (comes-more l (reverse rest) (Do e ∷ reverse b.done) e b.events (inl (refl, b.carried)));
      is = ap (compared_by e) (sym b.is) ∙ compares;
      worn = worn;
    };
  }

  -- a delivery between two places of the layout
  pub deliver-may : (a b : ℕ) (rest : List Task) (n : NetState) → AreLeft l all (Do (calls.delivering a b) ∷ rest) n → AreTwoPlaces n.layout a b
  deliver-may a b rest n before = two-places a b n (step-may (calls.delivering a b) rest n before)

  -- a caller that comes
  pub enter-may : (actor : Ui) (rest : List Task) (n : NetState) → AreLeft l all (Do (calls.entering actor n) ∷ rest) n → (is_actor actor ≡ true) × (has_actor n.layout actor ≡ true)
  enter-may actor rest n b = and_parts (is_actor actor) (has_actor n.layout actor) (step-may (calls.entering actor n) rest n b)

  pub enter-done : (actor : Ui) (rest : List Task) (n new : NetState) → AreLeft l all (Do (calls.entering actor n) ∷ rest) n → new ≡ happened (calls.entering actor n) n → AreLeft l all rest new
  enter-done actor rest n new b is = step-done (calls.entering actor n) rest n new b is tt (λ past h. first-clock past n h)

  -- a command
  pub act-done : (k : ℕ) (command : Command) (rest : List Task) (n new : NetState) → AreLeft l all (Do (Act k command) ∷ rest) n → new ≡ happened (Act k command) n → compared k command n < CLOCK_LIMIT → AreLeft l all rest new
  act-done k command rest n new b is unworn = step-done (Act k command) rest n new b is unworn (λ past h. tt)

  pub act-worn : (k : ℕ) (command : Command) (rest : List Task) (n new : NetState) (clock : ℕ) → AreLeft l all (Do (Act k command) ∷ rest) n → new ≡ n → (CLOCK_LIMIT ≤ compared k command n) × (clock ≡ compared k command n) → AreStopped l all clock new
  act-worn k command rest n new clock b same worn =
      step-worn (Act k command) rest n new clock b same (ap (λ (m : ℕ). Some m) (sym worn.1)) (subst (λ m. CLOCK_LIMIT ≤ m) (sym worn.1) worn.0)

  layout-is : (rest : List Task) (n : NetState) → AreLeft l all rest n → n.layout ≡ l
  layout-is rest n b = ap (λ (m : NetState). m.layout) b.is ∙ layout-stays b.events (opening l)

  drain-may : (rest : List Task) (n : NetState) (b : AreLeft l all (Drain 0 ∷ rest) n) (count : ℕ) → may_be l (rounds l 0 count ++ b.events) ≡ true
  drain-may rest n b count =
      let may = may-older l (reverse rest) (Drain 0 ∷ reverse b.done) (subst (MayAll l) (turned all b.done (Drain 0) rest b.whole) can.may) in
      let who = caller-actor (slice_get (schedule l b.events).callers 0) (may.0 b.events b.carried) in
      (rounds-may l can.shape 0 count b.events who.0 b.may who.1).0

  -- a drain that comes next
  pub drain-done : (rest : List Task) (n new : NetState) (number : ℕ) → AreLeft l all (Drain 0 ∷ rest) n → Drains n.layout n new number → AreLeft l all rest new
  drain-done rest n new number b d =
      let here = layout-is (Drain 0 ∷ rest) n b in
      let is : new ≡ schedule l (rounds l 0 d.count ++ b.events) =
      d.drained ∙ ap (λ (z : Layout). after (rounds z 0 d.count) n) here ∙ ap (after (rounds l 0 d.count)) b.is ∙ sym (after-append (rounds l 0 d.count) b.events (opening l)) in
      let dry : served (round l 0) (schedule l (rounds l 0 d.count ++ b.events)) ≡ 0 =
      ap (served (round l 0)) (sym is) ∙ ap (λ (z : Layout). served (round z 0) new) (sym here) ∙ d.dry in
      record {
        done = b.done ++ Drain 0 ∷ [];
        whole = b.whole ∙ sym (append_assoc b.done (Drain 0 ∷ []) rest);
        events = rounds l 0 d.count ++ b.events;
        is = is;
        carried = subst (λ ts. CarryOut l ts (rounds l 0 d.count ++ b.events)) (sym (reverse-append b.done (Drain 0 ∷ [])))
            (b.events, (record { count = d.count; rounds = refl; dry = dry }, b.carried));
        may = drain-may rest n b d.count;
        unworn = unworn-append (rounds l 0 d.count) b.events (opening l)
            (subst (λ m. AreUnworn (rounds l 0 d.count) m) b.is (subst (λ (z : Layout). AreUnworn (rounds z 0 d.count) n) here d.unworn)) b.unworn;
        clocks = clocks-delivered l 0 (rounds l 0 d.count) b.events (deliveries l 0 d.count) b.clocks;
      }

  pub drain-worn : (rest : List Task) (n new : NetState) (clock : ℕ) → AreLeft l all (Drain 0 ∷ rest) n → IsWornIn clock n new → AreStopped l all clock new
  drain-worn rest n new clock b w =
      let are : rounds l 0 w.comes.count ≡ w.comes.later ++ w.next ∷ w.done = ap (λ (z : Layout). rounds z 0 w.comes.count) (sym (layout-is (Drain 0 ∷ rest) n b)) ∙ w.comes.are in
      let comes : IsInRounds l 0 w.next w.done = record { count = w.comes.count; later = w.comes.later; are = are } in
      let is : new ≡ schedule l (w.done ++ b.events) = w.is ∙ ap (after w.done) b.is ∙ sym (after-append w.done b.events (opening l)) in
      let whole : rounds l 0 w.comes.count ++ b.events ≡ w.comes.later ++ w.next ∷ (w.done ++ b.events) =
      ap (λ z. z ++ b.events) are ∙ append_assoc w.comes.later (w.next ∷ w.done) b.events in
      let may = may-suffix l w.comes.later (w.next ∷ (w.done ++ b.events)) (ap (may_be l) (sym whole) ∙ drain-may rest n b w.comes.count) in
      record {
        events = w.done ++ b.events;
        is = is;
        may = (and_parts (may_happen w.next (schedule l (w.done ++ b.events))) (may_be l (w.done ++ b.events)) may).1;
        unworn = unworn-append w.done b.events (opening l) (subst (λ m. AreUnworn w.done m) b.is w.unworn) b.unworn;
        clocks = clocks-delivered l 0 w.done b.events (in-rounds l 0 w.next w.done comes) b.clocks;
        worn = record {
          next = w.next;
          comes = subst (λ ts. ComesNext l ts w.next (w.done ++ b.events)) (sym (turned all b.done (Drain 0) rest b.whole))
              (comes-more l (reverse rest) (Drain 0 ∷ reverse b.done) w.next (w.done ++ b.events) (inl (w.done, (b.events, (comes, refl, b.carried)))));
          is = ap (compared_by w.next) (sym is) ∙ w.compares;
          worn = w.worn;
        };
      }

  -- the sites that were just started are before all that is behind their start
  pub from-start : (rest : List Task) (n : NetState) → all ≡ Do starting ∷ rest → n ≡ just_started l → AreLeft l all rest n
  from-start rest n whole h = record {
    done = Do starting ∷ [];
    whole = whole;
    events = starting ∷ [];
    is = h;
    carried = ([], (refl, refl));
    may = and_from (may_happen starting (opening l)) true (first-there l can.shape) refl;
    unworn = (tt, tt);
    clocks = clocks-start l;
  }

  finished : (n : NetState) (b : AreLeft l all [] n) → CarryOut l (reverse all) b.events
  finished n b = subst (λ ts. CarryOut l ts b.events) (ap reverse (sym (append-nil b.done) ∙ sym b.whole)) b.carried

  -- what was performed was closed
  pub played-as : (worn given : Option ℕ) (n : NetState) (closed : Closed) → ArePerformed l all given n → (worn ≡ given) × IsClosed n closed → ArePlayed l all worn closed
  played-as worn given n closed performed h = (n, (subst (λ w. ArePerformed l all w n) (sym h.0) performed, h.1))

  -- what was played when the sites were closed
  pub ordered-all : (closed : Closed) → ArePlayed l all None closed → IsOrdered l (reverse all) Status.Done closed × IsOrdered l (reverse all) Status.WriteFault closed
  ordered-all closed p =
      let b = p.1.0 in
      let closes = subst (λ n. IsClosed n closed) b.is p.1.1 in (
        record { events = b.events; may = b.may; unworn = b.unworn; carried = finished p.0 b; closes = closes },
        record { events = b.events; may = b.may; unworn = b.unworn; carried = finished p.0 b; closes = closes },
      )

  pub ordered-worn : (clock : ℕ) (closed : Closed) → ArePlayed l all (Some clock) closed → IsOrdered l (reverse all) (Status.Worn clock) closed
  ordered-worn clock closed p =
      let b = p.1.0 in
      record { events = b.events; may = b.may; unworn = b.unworn; carried = b.worn; closes = subst (λ n. IsClosed n closed) b.is p.1.1 }

  -- the worn clock is that of an entry
  pub worn-has : (clock : ℕ) (closed : Closed) → ArePlayed l all (Some clock) closed → HasClock clock (merge_of closed)
  worn-has clock closed p =
      let b = p.1.0 in
      let past : merged_past (schedule l b.events) ≡ past_of closed = ap merged_past (sym b.is) ∙ ap (λ js. reverse (merged js)) (sym p.1.1.left.journals) in
      has-reverse clock (merge_of closed) (subst (HasClock clock) past (worn-in-merge l b.events can.shape b.may b.clocks b.worn.next clock b.worn.is b.worn.worn))

  pub worn-high : (clock : ℕ) (closed : Closed) → ArePlayed l all (Some clock) closed → CLOCK_LIMIT ≤ clock
  worn-high clock closed p = p.1.0.worn.worn
