-- The clocks of callers and of packets are clocks of entries; so a clock that is worn is that of an entry.
use Rattle.std.proofs.Common.{ℕ, zero, suc, ◌≡◌, ◌≤◌, ◌==◌, ◌⊎◌, max, nat_le, Bool, true, false, cond, List, [], ◌∷◌, ◌++◌, length, map, reverse, Option, Some, None, slice_get, slice_set, refl, sym, ◌∙◌, ap, subst, inl, inr, arith}
use Rattle.std.specs.List.{All, filter}
use Rattle.std.proofs.lemmas.Bool.{eqb-true, eqb-false, eq-eqb, leb-true, leb-false}
use Rattle.std.proofs.lemmas.List.{reverse-append}
use Rattle.std.proofs.lemmas.List.Elements.{All-nil, All-cons, All-head, All-tail, All-append, All-weaker}
use Rattle.chorus_ui.specs.declared.layout.Layout.{Layout}
use Rattle.chorus_ui.specs.declared.limits.TheConstants.{CLOCK_LIMIT}
use Rattle.chorus_ui.specs.Layout.{IsLayout}
use Rattle.chorus_entry.specs.declared.entry.Entry.{Entry}
use Rattle.chorus_entry.specs.declared.act.Act.{Act}
use Rattle.chorus_entry.specs.declared.command.Command.{Command}
use Rattle.chorus_entry.specs.declared.packet.Packet.{Packet}
use Rattle.chorus_entry.specs.declared.packet.Cargo.{Cargo}
use Rattle.chorus_entry.specs.Order.{is_at}
use Rattle.chorus_entry.specs.Places.{place_for}
use Rattle.chorus_world.specs.Views.{at}
use Rattle.chorus_world.specs.Places.{last_clock}
use Rattle.chorus_calls.specs.Callers.{Seated, new_caller, raised}
use Rattle.law_machine.specs.declared.outgoing.Outgoing.{Outgoing}
use Rattle.law_machine.specs.PlaceState.{Turn, Change, packed, next_entry, next_clock, say}
use Rattle.law_machine.specs.PlaceMachine.{begun_by, act, work}
use Rattle.law_machine.proofs.Machine.Chains.{act-keeps, work-keeps}
use Rattle.law_machine.proofs.Machine.Follows.{IsSame}
use Rattle.law_network.specs.Packets.{is_link, is_link_before, put, put_all, first_on, rest_on}
use Rattle.law_network.specs.Network as net
use Rattle.law_network.specs.Network.{NetState, Event, Enter, Deliver, See, shown, schedule, place, turn_for, ended, commanded, works_off, delivered}
use Rattle.law_network.specs.Calls.{starting, last_of, compared_with, compared_on}
use Rattle.law_network.specs.History.{history, newer}
use Rattle.law_network.specs.Left.{merged_past}
use Rattle.law_network.specs.Schedules.{may_be}
use Rattle.law_network.specs.Tasks.{AreDeliveries}
use Rattle.law_network.proofs.Standing.CallerList.{get-replaced, get-other}
use Rattle.law_network.proofs.Events.Said.{said_with, said_on, said_at, newer-is}
use Rattle.law_network.proofs.Promises.Promised.{stands-at, journals-at}
use Rattle.chorus_net.specs.Worn.{compared_by}
use Rattle.chorus_report.specs.Headline.{HasClock}
use Rattle.chorus_replay.specs.Performing.{IsClock, HaveClocks}

-- Lists with an entry of this clock.

has-more : (m : ℕ) (xs ys : List Entry) → HasClock m ys → HasClock m (xs ++ ys)
has-more m [] ys h = h
has-more m (x ∷ xs) ys h = inr (has-more m xs ys h)

has-some : (m : ℕ) (p : Entry → Bool) (xs : List Entry) → HasClock m (filter p xs) → HasClock m xs
has-some m p [] h = absurd h
has-some m p (x ∷ xs) h = go (has-some m p xs) (p x) h
  where
    go : (HasClock m (filter p xs) → HasClock m xs) → (b : Bool) → HasClock m (cond b (x ∷ filter p xs) (filter p xs)) → HasClock m (x ∷ xs)
    go rest true (inl e) = inl e
    go rest true (inr k) = inr (rest k)
    go rest false k = inr (rest k)

has-here : (m : ℕ) (p : ℕ) (x : Entry) (xs : List Entry) → HasClock m (at p xs) → HasClock m (at p (x ∷ xs))
has-here m p x xs h = go (x.place == p)
  where
    go : (b : Bool) → HasClock m (cond b (x ∷ at p xs) (at p xs))
    go true = inr h
    go false = h

has-at : (m : ℕ) (xs : List Entry) → HasClock m xs → (p : ℕ) × HasClock m (at p xs)
has-at m [] h = absurd h
has-at m (x ∷ xs) (inl e) = (x.place, subst (λ b. HasClock m (cond b (x ∷ at x.place xs) (at x.place xs))) (sym (eq-eqb x.place x.place refl)) (inl e))
has-at m (x ∷ xs) (inr h) = (let rest = has-at m xs h in (rest.0, has-here m rest.0 x xs rest.1))

has-either : (m : ℕ) (xs ys : List Entry) → HasClock m (xs ++ ys) → HasClock m xs ⊎ HasClock m ys
has-either m [] ys h = inr h
has-either m (x ∷ xs) ys (inl e) = inl (inl e)
has-either m (x ∷ xs) ys (inr h) = go (has-either m xs ys h)
  where
    go : HasClock m xs ⊎ HasClock m ys → HasClock m (x ∷ xs) ⊎ HasClock m ys
    go (inl k) = inl (inr k)
    go (inr k) = inr k

pub has-reverse : (m : ℕ) (xs : List Entry) → HasClock m (reverse xs) → HasClock m xs
has-reverse m [] h = h
has-reverse m (x ∷ xs) h = go (has-reverse m xs) (has-either m (reverse xs) (x ∷ []) (subst (HasClock m) (reverse-append (x ∷ []) xs) h))
  where
    go : (HasClock m (reverse xs) → HasClock m xs) → HasClock m (reverse xs) ⊎ HasClock m (x ∷ []) → HasClock m (x ∷ xs)
    go rest (inl k) = inr (rest k)
    go rest (inr (inl e)) = inl e
    go rest (inr (inr k)) = absurd k

is-more : (new past : List Entry) (m : ℕ) → IsClock past m → IsClock (new ++ past) m
is-more new past m (inl none) = inl none
is-more new past m (inr has) = inr (has-more m new past has)

last-is : (past : List Entry) → IsClock past (last_clock past)
last-is [] = inl refl
last-is (e ∷ past) = inr (inl refl)

-- the last clock of a place
place-is : (past : List Entry) (p : ℕ) → IsClock past (last_clock (at p past))
place-is past p = go (last-is (at p past))
  where
    go : IsClock (at p past) (last_clock (at p past)) → IsClock past (last_clock (at p past))
    go (inl none) = inl none
    go (inr has) = inr (has-some (last_clock (at p past)) (is_at p) past has)

max-is : (past : List Entry) (a b : ℕ) → IsClock past a → IsClock past b → IsClock past (max a b)
max-is past a b h k = go (nat_le a b) refl
  where
    high : (a b : ℕ) → a ≤ b → b ≡ max a b
    high a b h = omega (arith, h)

    low : (a b : ℕ) → b ≤ a → a ≡ max a b
    low a b h = omega (arith, h)

    go : (z : Bool) → nat_le a b ≡ z → IsClock past (max a b)
    go true e = subst (IsClock past) (high a b (leb-true a b e)) k
    go false e = (let less = leb-false a b e in subst (IsClock past) (low a b (omega (arith, less))) h)

-- A turn.

pub record Clocked (past base : List Entry) (t : Turn) : Type 0 where
  pub new : List Entry
  pub journal : t.place.journal ≡ new ++ base
  pub last : IsClock (new ++ past) t.caller.last
  pub puts : All (λ (o : Outgoing). IsClock (new ++ past) o.packet.clock) t.puts

all-packed : (u : Turn) (past : List Entry) → IsClock past (next_clock u) → (loads : List (ℕ × Cargo)) → All (λ (o : Outgoing). IsClock past o.packet.clock) (map (packed u) loads)
all-packed u past h [] = All-nil (λ (o : Outgoing). IsClock past o.packet.clock)
all-packed u past h (load ∷ loads) = All-cons (λ (o : Outgoing). IsClock past o.packet.clock) (packed u load) (map (packed u) loads) h (all-packed u past h loads)

says : (past base : List Entry) (a : Act) (x : Change) (u : Turn) → IsSame x.caller u.caller → Clocked past base u → Clocked past base (say a x u)
says past base a x u same h =
    let e = next_entry a u in
    let now : IsClock (e ∷ h.new ++ past) (next_clock u) = inr (inl refl) in
    record {
      new = e ∷ h.new;
      journal = ap (λ es. e ∷ es) h.journal;
      last = now;
      puts = All-append (λ (o : Outgoing). IsClock (e ∷ h.new ++ past) o.packet.clock) u.puts (map (packed u) x.loads)
          (All-weaker (λ (o : Outgoing). IsClock (h.new ++ past) o.packet.clock) (λ (o : Outgoing). IsClock (e ∷ h.new ++ past) o.packet.clock) (λ o k. is-more (e ∷ []) (h.new ++ past) o.packet.clock k) u.puts h.puts)
          (all-packed u (e ∷ h.new ++ past) now x.loads);
    }

begins : (past : List Entry) (t : Turn) → t.puts ≡ [] → IsClock past t.caller.last → Clocked past t.place.journal t
begins past t none last = record {
  new = [];
  journal = refl;
  last = last;
  puts = subst (All (λ (o : Outgoing). IsClock past o.packet.clock)) (sym none) (All-nil (λ (o : Outgoing). IsClock past o.packet.clock));
}

-- Packets.

all-put : (P : Outgoing → Type 0) (o : Outgoing) (us : List Outgoing) → P o → All P us → All P (put o us)
all-put P o [] h k = All-cons P o [] h k
all-put P o (u ∷ us) h k = go (is_link_before o u) (all-put P o us h (All-tail P u us k))
  where
    go : (b : Bool) → All P (put o us) → All P (cond b (o ∷ u ∷ us) (u ∷ put o us))
    go true rest = All-cons P o (u ∷ us) h k
    go false rest = All-cons P u (put o us) (All-head P u us k) rest

all-puts : (P : Outgoing → Type 0) (os us : List Outgoing) → All P os → All P us → All P (put_all os us)
all-puts P [] us h k = k
all-puts P (o ∷ os) us h k = all-puts P os (put o us) (All-tail P o os h) (all-put P o us (All-head P o os h) k)

all-rest : (P : Outgoing → Type 0) (a b : ℕ) (us : List Outgoing) → All P us → All P (rest_on a b us)
all-rest P a b [] k = k
all-rest P a b (u ∷ us) k = go (is_link a b u) (all-rest P a b us (All-tail P u us k))
  where
    go : (z : Bool) → All P (rest_on a b us) → All P (cond z us (u ∷ rest_on a b us))
    go true rest = All-tail P u us k
    go false rest = All-cons P u (rest_on a b us) (All-head P u us k) rest

first-is : (past : List Entry) (a b : ℕ) (us : List Outgoing) (q : Packet) → All (λ (o : Outgoing). IsClock past o.packet.clock) us → first_on a b us ≡ Some q → IsClock past q.clock
first-is past a b [] q k h = absurd (cc)
first-is past a b (u ∷ us) q k h = go (is_link a b u) h (first-is past a b us q (All-tail (λ (o : Outgoing). IsClock past o.packet.clock) u us k))
  where
    go : (z : Bool) → cond z (Some u.packet) (first_on a b us) ≡ Some q → (first_on a b us ≡ Some q → IsClock past q.clock) → IsClock past q.clock
    go true e rest = (let same : u.packet ≡ q = cc in subst (λ (z : Packet). IsClock past z.clock) same (All-head (λ (o : Outgoing). IsClock past o.packet.clock) u us k))
    go false e rest = rest e

-- Events.

after-turn : (past : List Entry) (k : ℕ) (u : Turn) (n : NetState) (caller : Seated) (base : List Entry) → slice_get n.callers k ≡ Some caller
    → ((j : ℕ) (v : Seated) → slice_get n.callers j ≡ Some v → IsClock past v.last) → All (λ (o : Outgoing). IsClock past o.packet.clock) n.packets
    → (h : Clocked past base u) → HaveClocks (h.new ++ past) (ended k u n)
after-turn past k u n caller base found lasts packets h = record {
  lasts = λ j v e. go j v (k == j) refl e;
  packets = all-puts (λ (o : Outgoing). IsClock (h.new ++ past) o.packet.clock) u.puts n.packets h.puts
      (All-weaker (λ (o : Outgoing). IsClock past o.packet.clock) (λ (o : Outgoing). IsClock (h.new ++ past) o.packet.clock) (λ o z. is-more h.new past o.packet.clock z) n.packets packets);
}
  where
    some : (x y : Seated) → Some x ≡ Some y → x ≡ y
    some x y e = cc

    go : (j : ℕ) (v : Seated) (b : Bool) → (k == j) ≡ b → slice_get (slice_set n.callers k u.caller) j ≡ Some v → IsClock (h.new ++ past) v.last
    go j v true same e =
        let is = some u.caller v (sym (get-replaced n.callers k caller u.caller found) ∙ (ap (slice_get (slice_set n.callers k u.caller)) (eqb-true k j same) ∙ e)) in
        subst (λ (z : Seated). IsClock (h.new ++ past) z.last) is h.last
    go j v false apart e = is-more h.new past v.last (lasts j v (sym (get-other n.callers k j u.caller (eqb-false k j apart)) ∙ e))

said-is : (past : List Entry) (t u : Turn) (h : Clocked past t.place.journal u) → h.new ≡ newer t.place.journal u.place.journal
said-is past t u h = sym (ap (newer t.place.journal) h.journal ∙ newer-is h.new t.place.journal)

after-command : (past : List Entry) (k : ℕ) (c : Command) (n : NetState) (o : Option Seated) → slice_get n.callers k ≡ o → HaveClocks past n → HaveClocks (said_with c o n ++ past) (commanded k c o n)
after-command past k c n None found h = h
after-command past k c n (Some caller) found h =
    let t = turn_for c caller n in
    let clocked = act-keeps (Clocked past t.place.journal) (says past t.place.journal) c t (begins past t refl (h.lasts k caller found)) in
    subst (λ new. HaveClocks (new ++ past) (ended k (act c t) n)) (said-is past t (act c t) clocked)
    (after-turn past k (act c t) n caller t.place.journal found h.lasts h.packets clocked)

after-packet : (past : List Entry) (k a b : ℕ) (n : NetState) (caller : Seated) (o : Option Packet) → slice_get n.callers k ≡ Some caller → first_on a b n.packets ≡ o → HaveClocks past n → HaveClocks (said_on b caller o n ++ past) (works_off k a b caller o n)
after-packet past k a b n caller None found first h = h
after-packet past k a b n caller (Some q) found first h =
    let t = begun_by (place b n) caller q in
    let last = max-is past caller.last q.clock (h.lasts k caller found) (first-is past a b n.packets q h.packets first) in
    let clocked = work-keeps (Clocked past t.place.journal) (says past t.place.journal) q t (begins past t refl last) in
    subst (λ new. HaveClocks (new ++ past) (ended k (work q t) (record n { packets = rest_on a b n.packets }))) (said-is past t (work q t) clocked)
    (after-turn past k (work q t) (record n { packets = rest_on a b n.packets }) caller t.place.journal found h.lasts (all-rest (λ (o : Outgoing). IsClock past o.packet.clock) a b n.packets h.packets) clocked)

after-delivery : (past : List Entry) (k a b : ℕ) (n : NetState) (o : Option Seated) → slice_get n.callers k ≡ o → HaveClocks past n → HaveClocks (said_at a b o n ++ past) (delivered k a b o n)
after-delivery past k a b n None found h = h
after-delivery past k a b n (Some caller) found h = after-packet past k a b n caller (first_on a b n.packets) found refl h

after-showing : (past : List Entry) (k clock : ℕ) (n : NetState) (o : Option Seated) → slice_get n.callers k ≡ o → IsClock past clock → HaveClocks past n → HaveClocks past (shown k clock o n)
after-showing past k clock n None found is h = h
after-showing past k clock n (Some caller) found is h = record { lasts = λ j v e. go j v e (k == j) refl; packets = h.packets }
  where
    go : (j : ℕ) (v : Seated) → slice_get (slice_set n.callers k (raised clock caller)) j ≡ Some v → (b : Bool) → (k == j) ≡ b → IsClock past v.last
    go j v e false ne = h.lasts j v (sym (get-other n.callers k j (raised clock caller) (eqb-false k j ne)) ∙ e)
    go j v e true same =
        let now : Some (raised clock caller) ≡ Some v =
        sym (get-replaced n.callers k caller (raised clock caller) found) ∙ ap (slice_get (slice_set n.callers k (raised clock caller))) (eqb-true k j same) ∙ e in
        let it : raised clock caller ≡ v = cc in
        subst (λ (z : Seated). IsClock past z.last) it (max-is past caller.last clock (h.lasts k caller found) is)

-- a caller that comes begins with a clock of an entry, and so is each clock that is shown
abbrev pub BeginsSo : List Entry → Event → Type 0
BeginsSo past (Enter actor last) = IsClock past last
BeginsSo past (net.Act k c) = Unit {0}
BeginsSo past (Deliver k a b) = Unit {0}
BeginsSo past (See k clock) = IsClock past clock

-- A list with one more at its end.

get-last : (xs : List Seated) (z : Seated) (k : ℕ) (x : Seated) → slice_get (xs ++ z ∷ []) k ≡ Some x → (slice_get xs k ≡ Some x) ⊎ ((k ≡ length xs) × (z ≡ x))
get-last [] z zero x h = inr (refl, cc)
get-last [] z (suc k) x h = cc
get-last (y ∷ xs) z zero x h = inl h
get-last (y ∷ xs) z (suc k) x h = go (get-last xs z k x h)
  where
    go : (slice_get xs k ≡ Some x) ⊎ ((k ≡ length xs) × (z ≡ x)) → (slice_get xs k ≡ Some x) ⊎ ((suc k ≡ length (y ∷ xs)) × (z ≡ x))
    go (inl e) = inl e
    go (inr e) = inr (ap suc e.0, e.1)

pub clocks-more : (l : Layout) (e : Event) (es : List Event) → BeginsSo (history l es) e → HaveClocks (history l es) (schedule l es) → HaveClocks (history l (e ∷ es)) (schedule l (e ∷ es))
clocks-more l (Enter actor last) es begins h = record { lasts = λ k v e. go k v (get-last n.callers new k v e); packets = h.packets }
  where
    n : NetState
    n = schedule l es

    new : Seated
    new = new_caller (length n.callers) actor last

    go : (k : ℕ) (v : Seated) → (slice_get n.callers k ≡ Some v) ⊎ ((k ≡ length n.callers) × (new ≡ v)) → IsClock (history l es) v.last
    go k v (inl old) = h.lasts k v old
    go k v (inr now) = subst (λ (z : Seated). IsClock (history l es) z.last) now.1 begins
clocks-more l (net.Act k c) es begins h = after-command (history l es) k c (schedule l es) (slice_get (schedule l es).callers k) refl h
clocks-more l (Deliver k a b) es begins h = after-delivery (history l es) k a b (schedule l es) (slice_get (schedule l es).callers k) refl h
clocks-more l (See k clock) es begins h = after-showing (history l es) k clock (schedule l es) (slice_get (schedule l es).callers k) refl begins h

pub clocks-delivered : (l : Layout) (k : ℕ) (done es : List Event) → AreDeliveries k done → HaveClocks (history l es) (schedule l es) → HaveClocks (history l (done ++ es)) (schedule l (done ++ es))
clocks-delivered l k [] es are h = h
clocks-delivered l k (e ∷ done) es are h =
    let IsDelivery : Event → Type 0 = λ (f : Event). (a : ℕ) × ((b : ℕ) × (f ≡ Deliver k a b)) in
    let head = All-head IsDelivery e done are in
    let begins : BeginsSo (history l (done ++ es)) e = subst (BeginsSo (history l (done ++ es))) (sym head.1.1) tt in
    clocks-more l e (done ++ es) begins (clocks-delivered l k done es (All-tail IsDelivery e done are) h)

pub clocks-start : (l : Layout) → HaveClocks (history l (starting ∷ [])) (schedule l (starting ∷ []))
clocks-start l = clocks-more l starting [] (inl refl) (record { lasts = λ k v e. absurd (cc); packets = All-nil (λ (o : Outgoing). IsClock [] o.packet.clock) })

-- a caller that comes with the last clock of seat 0
pub first-clock : (past : List Entry) (n : NetState) → HaveClocks past n → IsClock past (last_of (slice_get n.callers 0))
first-clock past n h = go (slice_get n.callers 0) refl
  where
    go : (o : Option Seated) → slice_get n.callers 0 ≡ o → IsClock past (last_of o)
    go None e = inl refl
    go (Some caller) e = h.lasts 0 caller e

-- What is compared.

module _ (l : Layout) (es : List Event) (shape : IsLayout l) (may : may_be l es ≡ true) (h : HaveClocks (history l es) (schedule l es)) where
  abbrev n : NetState
  n = schedule l es

  abbrev past : List Entry
  past = history l es

  journal-is : (p : ℕ) → IsClock past (last_clock (place p n).journal)
  journal-is p = subst (λ js. IsClock past (last_clock js)) (sym ((stands-at l es shape may).journal p)) (place-is past p)

  some : (a b : ℕ) → Some a ≡ Some b → a ≡ b
  some a b e = cc

  with-caller : (c : Command) (o : Option Seated) (k : ℕ) → slice_get n.callers k ≡ o → IsClock past (compared_with c o n)
  with-caller c None k found = inl refl
  with-caller c (Some caller) k found = max-is past (last_clock (place (place_for n.layout caller.actor c) n).journal) caller.last (journal-is (place_for n.layout caller.actor c)) (h.lasts k caller found)

  on-packet : (b : ℕ) (o : Option Seated) (p : Option Packet) (k a : ℕ) (clock : ℕ) → slice_get n.callers k ≡ o → first_on a b n.packets ≡ p → compared_on b o p n ≡ Some clock → IsClock past clock
  on-packet b None p k a clock found first is = absurd (cc)
  on-packet b (Some caller) None k a clock found first is = absurd (cc)
  on-packet b (Some caller) (Some q) k a clock found first is =
      let last = max-is past caller.last q.clock (h.lasts k caller found) (first-is past a b n.packets q h.packets first) in
      subst (IsClock past) (some (max (last_clock (place b n).journal) (max caller.last q.clock)) clock is) (max-is past (last_clock (place b n).journal) (max caller.last q.clock) (journal-is b) last)

  compared-is : (e : Event) (clock : ℕ) → compared_by e n ≡ Some clock → IsClock past clock
  compared-is (Enter actor last) clock is = absurd (cc)
  compared-is (See seat seen) clock is = absurd (cc)
  compared-is (net.Act k c) clock is =
      subst (IsClock past) (some (compared_with c (slice_get n.callers k) n) clock is) (with-caller c (slice_get n.callers k) k refl)
  compared-is (Deliver k a b) clock is = on-packet b (slice_get n.callers k) (first_on a b n.packets) k a clock refl refl is

  in-merge : (clock : ℕ) → CLOCK_LIMIT ≤ clock → IsClock past clock → HasClock clock (merged_past n)
  in-merge clock worn (inl none) = absurd (omega (arith, worn, none))
  in-merge clock worn (inr has) =
      let there = has-at clock past has in
      has-some clock (is_at there.0) (merged_past n)
      (subst (HasClock clock) (sym ((stands-at l es shape may).journal there.0) ∙ sym (journals-at l es shape may there.0)) there.1)

  -- a worn clock is that of an entry of the merge
  pub worn-in-merge : (e : Event) (clock : ℕ) → compared_by e n ≡ Some clock → CLOCK_LIMIT ≤ clock → HasClock clock (merged_past n)
  worn-in-merge e clock is worn = in-merge clock worn (compared-is e clock is)
