-- The parts of a call of `serve`, put together.
-- a, b, c, d and e are the desk before it, when what waited was sent, when a packet is in hand, when it is taken out, and at the
-- end; w and x are the caller before and after, k is the packet.
use Rattle.std.proofs.Common.{ℕ, ◌≡◌, ◌+◌, ◌<◌, ◌≤◌, ◌==◌, ◌⊎◌, nat_le, true, ◌&&◌, length, map, List, [], ◌∷◌, ◌++◌, Option, Some, None, refl, sym, ◌∙◌, ap, subst, inl, inr, arith, append_assoc, Result, Ok, Err, IfOk, OnOk, OnErr, max}
use Rattle.std.specs.Prelude.{option_to_list}
use Rattle.std.proofs.lemmas.Bool.{and_parts, leb-true}
use Rattle.std.proofs.lemmas.List.{append-nil, length-replicate}
use Rattle.chorus_ui.specs.declared.limits.TheConstants.{CLOCK_LIMIT}
use Rattle.chorus_ui.specs.declared.layout.Layout.{Layout}
use Rattle.chorus_ui.specs.Layout.{has_place, places}
use Rattle.chorus_entry.specs.declared.command.Command.{Command}
use Rattle.place_outbox.specs.Waiting.{list_to, nothing_to}
use Rattle.chorus_entry.specs.declared.packet.Packet.{Packet}
use Rattle.chorus_calls.specs.Callers.{Seated}
use Rattle.law_machine.specs.declared.outgoing.Outgoing.{Outgoing}
use Rattle.law_machine.specs.PlaceState.{PlaceState, greatest_clock, started}
use Rattle.law_machine.specs.PlaceMachine.{begun, begun_by, act, work}
use Rattle.law_machine.specs.Lawful.{is_lawful}
use Rattle.law_machine.proofs.Machine.Stays.{act-stays, work-stays}
use Rattle.law_machine.specs.declared.reply.Reply.{Reply}
use Rattle.chorus_place.specs.Calls.{Place, state, Called, WorkedOff, IsWornBack, Stays}
use Rattle.chorus_place.specs.PlaceTables.Sending.{with_all}
use Rattle.chorus_place.specs.declared.fault.PlaceFault.{PlaceFault}
use Rattle.chorus_serve.specs.declared.served.Pump.{Pump}
use Rattle.chorus_serve.specs.declared.served.Pump.TheVariants as pumps
use Rattle.chorus_io.specs.Count.{raised}
use Rattle.chorus_ends.specs.Links.{Links, Counts}
use Rattle.law_history.specs.Turns.{puts_to, from_place}
use Rattle.law_history.specs.PlaceTurns.{as_sent}
use Rattle.chorus_serve.specs.Flows.{IsOther, Pushes, GoesOut, KeepsAtFull, EmptiesOrFull, WasEmpty, ComesNext, last_from}
use Rattle.chorus_serve.specs.Desks.{DeskState, IsDesk, in_hand}
use Rattle.chorus_serve.specs.declared.hand.Held.{Held}
use Rattle.chorus_serve.specs.Working.{begins_with, AreCounted, Performs, Holds, IsWorkedOff, IsHeldBack, HandlesPacket, IsWornAt}
use Rattle.chorus_serve.specs.Serving.{Moved, Rests, WorksOff, KeepsInHand, IsIdle, Answers, IsWornBy, SendsOut, TakesUp, FindsNone, LaysDown}
use Rattle.chorus_serve.proofs.Flowing.{counts-self, counts-on, rose-on, rose-behind, comes-behind, comes-on, goes-nothing, goes-on, all-length, all-wait}

-- what was sent is as it was
goes-kept : (p : ℕ) (put : List Packet) (ls ms : List (List Packet)) (k l m : Links) → GoesOut p put ls ms k l → m.sent p ≡ l.sent p → GoesOut p put ls ms k m
goes-kept p put ls ms k l m h e = record { pushed = h.pushed; sent = e ∙ h.sent; waits = h.waits }

-- the journal is the same, nothing more was put, and there is as much room
none-counted : (a b : DeskState) → state b.place ≡ state a.place → b.place.out.puts ≡ a.place.out.puts → a.place.spare ≤ b.place.spare → AreCounted [] a b
none-counted a b st puts room = record {
  puts = (omega (arith, puts));
  spare = (let j = ap (λ (z : PlaceState). length z.journal) st in omega (arith, j, room));
}

counted-on : (os : List Outgoing) (a b c : DeskState) → AreCounted [] a b → AreCounted os b c → AreCounted os a c
counted-on os a b c x y = record {
  puts = (let p = x.puts in let q = y.puts in omega (arith, p, q));
  spare = (let p = x.spare in let q = y.spare in omega (arith, p, q));
}

-- all that waited was sent, or a link was found full
pub emptied : (p : ℕ) (ls ms : List (List Packet)) (k l : Links) → GoesOut p [] ls ms k l → KeepsAtFull p ms k l → EmptiesOrFull p ls k l
emptied p ls ms k l g (inl none) =
    inl (record { more = []; sent = g.sent ∙ ap (λ xs. k.sent p ++ xs) (sym (append-nil g.pushed) ∙ sym (ap (λ xs. g.pushed ++ xs) none) ∙ g.waits) ∙ sym (append_assoc (k.sent p) (list_to p ls) []) })
emptied p ls ms k l g (inr rose) = inr rose

pub all-emptied : {A E : Type 0} (result : Result A E) (q r : Place) (k l : Links) → Pushes q r k l
    → OnOk result ((p : ℕ) → IsOther q.layout q.number p → KeepsAtFull p r.out.lists k l)
    → OnOk result ((p : ℕ) → IsOther q.layout q.number p → EmptiesOrFull p q.out.lists k l)
all-emptied (Ok a) q r k l s h = λ p o. emptied p q.out.lists r.out.lists k l (s.out p) (h p o)
all-emptied (Err e) q r k l s h = tt

pub emptied-on : (p : ℕ) (ls : List (List Packet)) (k l m : Links) → m.sent p ≡ l.sent p → l.fulls p ≤ m.fulls p → EmptiesOrFull p ls k l → EmptiesOrFull p ls k m
emptied-on p ls k l m e le (inl all) = inl (record { more = all.more; sent = e ∙ all.sent })
emptied-on p ls k l m e le (inr rose) = inr (rose-on (k.fulls p) (l.fulls p) (m.fulls p) rose le)

-- more was sent
pub emptied-more : (p : ℕ) (ls ms ns : List (List Packet)) (k l m : Links) → GoesOut p [] ms ns l m → l.fulls p ≤ m.fulls p → EmptiesOrFull p ls k l → EmptiesOrFull p ls k m
emptied-more p ls ms ns k l m g le (inl all) =
    inl (record {
      more = all.more ++ g.pushed;
      sent =
          g.sent ∙ ap (λ xs. xs ++ g.pushed) all.sent ∙ append_assoc (k.sent p ++ list_to p ls) all.more g.pushed;
    })
emptied-more p ls ms ns k l m g le (inr rose) = inr (rose-on (k.fulls p) (l.fulls p) (m.fulls p) rose le)

module _ (a b c : DeskState) (s : SendsOut a b) (t : TakesUp b c) where
  taken-state : state c.place ≡ state a.place
  taken-state = ap state t.place ∙ s.state

  taken-out : (p : ℕ) → GoesOut p [] a.place.out.lists c.place.out.lists a.links c.links
  taken-out p =
      subst (λ (q : Place). GoesOut p [] a.place.out.lists q.out.lists a.links c.links) (sym t.place)
      (goes-kept p [] a.place.out.lists b.place.out.lists a.links b.links c.links (s.out p) (t.takes.sent p))

  taken-counts : Counts a.links c.links
  taken-counts = counts-on a.links b.links c.links s.counts t.takes.counts

  -- a desk with this place
  counted-at : (os : List Outgoing) (x y z : DeskState) → z.place ≡ y.place → AreCounted os x y → AreCounted os x z
  counted-at os x y z e h = record {
    puts = ap (λ (q : Place). q.out.puts) e ∙ h.puts;
    spare = subst (λ (q : Place). x.place.spare + length x.place.journal ≤ q.spare + length q.journal + length os) (sym e) h.spare;
  }

  counted-from : (os : List Outgoing) (x y z : DeskState) → y.place ≡ x.place → AreCounted os y z → AreCounted os x z
  counted-from os x y z e h = record {
    puts = h.puts ∙ ap (λ (q : Place). q.out.puts + length os) e;
    spare = subst (λ (q : Place). q.spare + length q.journal ≤ z.place.spare + length z.place.journal + length os) e h.spare;
  }

  taken-counted : AreCounted [] a c
  taken-counted = counted-at [] a b c t.place (none-counted a b s.state s.puts s.spare)

  taken-next : ComesNext a.place.layout a.place.number a.last t.popped a.links c.links
  taken-next =
      comes-behind a.place.layout a.place.number a.last t.popped a.links b.links c.links s.counts t.takes.counts
      (subst (λ n. ComesNext a.place.layout a.place.number n t.popped b.links c.links) s.last
      (subst (λ (z : PlaceState). ComesNext z.layout z.number b.last t.popped b.links c.links) s.state t.next))

  -- whatever was done with the packet in hand
  pub all-moved : (e : DeskState) (served : Option (ℕ × Packet)) (puts : List Outgoing)
      → ((p : ℕ) → has_place a.place.layout p ≡ true → GoesOut p (puts_to p (map as_sent puts)) c.place.out.lists e.place.out.lists c.links e.links)
      → e.links ≡ c.links → e.last ≡ c.last → AreCounted puts c e → option_to_list served ++ option_to_list e.hand ≡ option_to_list c.hand → Moved served puts a e
  all-moved e served puts waits links last counted hand = record {
    out = λ p h. goes-on p [] (puts_to p (map as_sent puts)) a.place.out.lists c.place.out.lists e.place.out.lists a.links c.links e.links (taken-out p) (waits p h);
    popped = t.popped;
    received = λ p. ap (λ (l : Links). l.received p) links ∙ t.takes.received p ∙ ap (λ xs. xs ++ from_place p (option_to_list t.popped)) (s.received p);
    hand = hand ∙ t.hand ∙ ap (λ o. option_to_list o ++ option_to_list t.popped) s.hand;
    next = subst (λ m. ComesNext a.place.layout a.place.number a.last t.popped a.links m) (sym links) taken-next;
    last = last ∙ t.last ∙ ap (λ n. last_from n t.popped) s.last;
    counted = counted-on puts a c e taken-counted counted;
    counts = subst (λ l. Counts a.links l) (sym links) taken-counts;
  }

  pub taken-worked : c.worked ≡ a.worked
  taken-worked = t.worked ∙ s.worked

  -- where the packet in hand stays there
  pub kept-moved : (e : DeskState) → e.place.out.lists ≡ c.place.out.lists → e.links ≡ c.links → e.last ≡ c.last → AreCounted [] c e → e.hand ≡ c.hand → Moved None [] a e
  kept-moved e lists links last counted hand =
      all-moved e None []
      (λ p h. subst (λ ls. GoesOut p [] c.place.out.lists ls c.links e.links) (sym lists) (goes-nothing p c.place.out.lists c.links e.links (ap (λ (l : Links). l.sent p) links)))
      links last counted (ap option_to_list hand)

  -- the packet in hand was not opened
  pub sealed-rests : (d : DeskState) (w : Seated) → LaysDown c d → d.hand ≡ c.hand → Rests a d w w
  sealed-rests d w l hand = record {
    state = ap state l.place ∙ taken-state;
    caller = refl;
    moved =
        kept-moved d (ap (λ (q : Place). q.out.lists) l.place) l.links l.last
        (none-counted c d (ap state l.place) (ap (λ (q : Place). q.out.puts) l.place) (let n = ap (λ (q : Place). q.spare) l.place in omega (arith, n)))
        hand;
    worked = l.worked ∙ taken-worked;
  }

  -- nothing is in hand
  pub none-idle : (d : DeskState) (w : Seated) → LaysDown c d → c.hand ≡ None → d.hand ≡ None → FindsNone b c → IsIdle a d w w
  none-idle d w l had has f = record {
    rests = sealed-rests d w l (has ∙ sym had);
    had_none = sym s.hand ∙ f.had_none;
    has_none = has;
    empties = λ p o.
        subst (λ m. WasEmpty p a.links m) (sym l.links)
        (rose-behind (a.links.empties p) (b.links.empties p) (c.links.empties p) (s.counts.empties p) (t.takes.counts.empties p)
        (f.empties p (subst (λ (z : PlaceState). IsOther z.layout z.number p) (sym s.state) o)));
  }

  module _ (d e : DeskState) (l : LaysDown c d) (from : ℕ) (k : Packet) (in_hand : c.hand ≡ Some (from, k)) (w x : Seated) where
    laid-state : state d.place ≡ state a.place
    laid-state = ap state l.place ∙ taken-state

    unworn-too : greatest_clock (begins_with k d w) < CLOCK_LIMIT → greatest_clock (begins_with k a w) < CLOCK_LIMIT
    unworn-too u = subst (λ z. greatest_clock (begun_by z w k) < CLOCK_LIMIT) laid-state u

    pub held-rests : Holds from k d e w x → Rests a e w x
    held-rests h = record {
      state = h.state ∙ laid-state;
      caller = h.caller;
      moved =
          kept-moved e (h.waits ∙ ap (λ (q : Place). q.out.lists) l.place) (h.links ∙ l.links) (h.last ∙ l.last)
          (none-counted c e (h.state ∙ ap state l.place) (h.puts ∙ ap (λ (q : Place). q.out.puts) l.place) (let n = ap (λ (q : Place). q.spare) l.place in let m = h.spare in omega (arith, n, m)))
          (h.hand ∙ sym in_hand);
      worked = h.worked ∙ l.worked ∙ taken-worked;
    }

    pub held-back : greatest_clock (begins_with k d w) < CLOCK_LIMIT → IsHeldBack from k d e w x → KeepsInHand from k a e w x
    held-back u h = record {
      unlawful = ap (is_lawful from k) (sym laid-state) ∙ h.unlawful;
      unworn = unworn-too u;
      rests = held-rests h.holds;
      hand = h.holds.hand;
    }

    pub worked-off : greatest_clock (begins_with k d w) < CLOCK_LIMIT → IsWorkedOff from k d e w x → WorksOff from k a e w x
    worked-off u h = record {
      lawful = ap (is_lawful from k) (sym laid-state) ∙ h.lawful;
      unworn = unworn-too u;
      state = h.state ∙ ap (λ z. (work k (begun_by z w k)).place) laid-state;
      caller = h.caller ∙ ap (λ z. (work k (begun_by z w k)).caller) laid-state;
      moved = all-moved e (Some (from, k)) (work k (begins_with k a w)).puts waits (h.links ∙ l.links) (h.last ∙ l.last) counted hand;
      hand = h.hand;
      worked = h.worked ∙ ap raised (l.worked ∙ taken-worked);
    }
      where
        waits : (p : ℕ) → has_place a.place.layout p ≡ true → GoesOut p (puts_to p (map as_sent (work k (begins_with k a w)).puts)) c.place.out.lists e.place.out.lists c.links e.links
        waits p here =
            subst (λ z. GoesOut p (puts_to p (map as_sent (work k (begun_by z w k)).puts)) c.place.out.lists e.place.out.lists c.links e.links) laid-state
            (subst (λ (q : Place). GoesOut p (puts_to p (map as_sent (work k (begins_with k d w)).puts)) q.out.lists e.place.out.lists c.links e.links) l.place
            (subst (λ m. GoesOut p (puts_to p (map as_sent (work k (begins_with k d w)).puts)) d.place.out.lists e.place.out.lists m e.links) l.links
            (h.out p (subst (λ (z : PlaceState). has_place z.layout p ≡ true) (sym laid-state) here))))

        counted : AreCounted (work k (begins_with k a w)).puts c e
        counted = subst (λ z. AreCounted (work k (begun_by z w k)).puts c e) laid-state (counted-from (work k (begins_with k d w)).puts c d e l.place h.counted)

        hand : option_to_list (Some (from, k)) ++ option_to_list e.hand ≡ option_to_list c.hand
        hand = ap (λ o. (from, k) ∷ option_to_list o) h.hand ∙ sym (ap option_to_list in_hand)

    pub worn-by : (clock : ℕ) → IsWornAt clock k d w → Holds from k d e w x
        → ((p : ℕ) → IsOther a.place.layout a.place.number p → EmptiesOrFull p a.place.out.lists a.links e.links) → IsWornBy clock a e w
    worn-by clock h holds sent = record {
      from = from;
      packet = k;
      hand = holds.hand;
      greatest = h.greatest ∙ ap (λ z. greatest_clock (begun_by z w k)) laid-state;
      worn = h.worn;
      emptied = sent;
    }

    pub handled-answers : (pump : Pump) → HandlesPacket pump from k d e w x → Answers pump a e w x
    handled-answers (pumps.Served served) h = (k, subst (λ n. WorksOff n k a e w x ⊎ KeepsInHand n k a e w x) (sym h.0) (by h.2))
      where
        by : IsWorkedOff from k d e w x ⊎ IsHeldBack from k d e w x → WorksOff from k a e w x ⊎ KeepsInHand from k a e w x
        by (inl worked) = inl (worked-off h.1 worked)
        by (inr held) = inr (held-back h.1 held)
    handled-answers (pumps.Idle put worked) h = absurd h

    handled-links : (pump : Pump) → HandlesPacket pump from k d e w x → e.links ≡ d.links
    handled-links (pumps.Served served) h = by h.2
      where
        by : IsWorkedOff from k d e w x ⊎ IsHeldBack from k d e w x → e.links ≡ d.links
        by (inl worked) = worked.links
        by (inr held) = held.holds.links
    handled-links (pumps.Idle put worked) h = absurd h

    module _ (before : (p : ℕ) → IsOther a.place.layout a.place.number p → EmptiesOrFull p a.place.out.lists a.links b.links) where
      still-emptied : e.links ≡ d.links → (p : ℕ) → IsOther a.place.layout a.place.number p → EmptiesOrFull p a.place.out.lists a.links e.links
      still-emptied same p o =
          subst (λ m. EmptiesOrFull p a.place.out.lists a.links m) (sym (same ∙ l.links))
          (emptied-on p a.place.out.lists a.links b.links c.links (t.takes.sent p) (t.takes.counts.fulls p) (before p o))

      pub ok-emptied : (result : Result Pump PlaceFault) → IfOk result (λ pump. HandlesPacket pump from k d e w x)
          → OnOk result ((p : ℕ) → IsOther a.place.layout a.place.number p → EmptiesOrFull p a.place.out.lists a.links e.links)
      ok-emptied (Ok pump) h = still-emptied (handled-links pump h)
      ok-emptied (Err fault) h = tt

      pub err-worn : (result : Result Pump PlaceFault) (fault : PlaceFault) (clock : ℕ) → result ≡ Err fault → IsWornAt clock k d w → OnErr result (Holds from k d e w x) → IsWornBy clock a e w
      err-worn result fault clock is worn refused =
          let holds : Holds from k d e w x = subst (λ r. OnErr r (Holds from k d e w x)) is refused in
          worn-by clock worn holds (still-emptied holds.links)

-- What waits then is sent once more: f is the desk then.

module _ (a e f : DeskState) (s : SendsOut e f) where
  moved-more : (served : Option (ℕ × Packet)) (puts : List Outgoing) → Moved served puts a e → Moved served puts a f
  moved-more served puts m = record {
    out = λ p h.
        subst (λ xs. GoesOut p xs a.place.out.lists f.place.out.lists a.links f.links) (append-nil (puts_to p (map as_sent puts)))
        (goes-on p (puts_to p (map as_sent puts)) [] a.place.out.lists e.place.out.lists f.place.out.lists a.links e.links f.links (m.out p h) (s.out p));
    popped = m.popped;
    received = λ p. s.received p ∙ m.received p;
    hand = ap (λ o. option_to_list served ++ option_to_list o) s.hand ∙ m.hand;
    next = comes-on a.place.layout a.place.number a.last m.popped a.links e.links f.links s.counts m.next;
    last = s.last ∙ m.last;
    counted = record {
      puts = s.puts ∙ m.counted.puts;
      spare = (let j = ap (λ (z : PlaceState). length z.journal) s.state in let more = s.spare in let room = m.counted.spare in omega (arith, j, more, room));
    };
    counts = counts-on a.links e.links f.links m.counts s.counts;
  }

  rests-more : (w x : Seated) → Rests a e w x → Rests a f w x
  rests-more w x r = record { state = s.state ∙ r.state; caller = r.caller; moved = moved-more None [] r.moved; worked = s.worked ∙ r.worked }

  works-more : (from : ℕ) (k : Packet) (w x : Seated) → WorksOff from k a e w x → WorksOff from k a f w x
  works-more from k w x h = record {
    lawful = h.lawful;
    unworn = h.unworn;
    state = s.state ∙ h.state;
    caller = h.caller;
    moved = moved-more (Some (from, k)) (work k (begins_with k a w)).puts h.moved;
    hand = s.hand ∙ h.hand;
    worked = s.worked ∙ h.worked;
  }

  keeps-more : (from : ℕ) (k : Packet) (w x : Seated) → KeepsInHand from k a e w x → KeepsInHand from k a f w x
  keeps-more from k w x h = record { unlawful = h.unlawful; unworn = h.unworn; rests = rests-more w x h.rests; hand = s.hand ∙ h.hand }

  idle-more : (w x : Seated) → IsIdle a e w x → IsIdle a f w x
  idle-more w x h = record {
    rests = rests-more w x h.rests;
    had_none = h.had_none;
    has_none = s.hand ∙ h.has_none;
    empties = λ p o. rose-on (a.links.empties p) (e.links.empties p) (f.links.empties p) (h.empties p o) (s.counts.empties p);
  }

  pub answers-more : (w x : Seated) (pump : Pump) → Answers pump a e w x → Answers pump a f w x
  answers-more w x (pumps.Served from) (k, inl h) = (k, inl (works-more from k w x h))
  answers-more w x (pumps.Served from) (k, inr h) = (k, inr (keeps-more from k w x h))
  answers-more w x (pumps.Idle put worked) h = (idle-more w x h.0, h.1 ∙ sym s.puts, h.2 ∙ sym s.worked)

  pub all-more : ((p : ℕ) → IsOther a.place.layout a.place.number p → EmptiesOrFull p a.place.out.lists a.links e.links)
      → (p : ℕ) → IsOther a.place.layout a.place.number p → EmptiesOrFull p a.place.out.lists a.links f.links
  all-more h p o = emptied-more p a.place.out.lists e.place.out.lists f.place.out.lists a.links e.links f.links (s.out p) (s.counts.fulls p) (h p o)

-- Places of a layout.

pub place-most : (l : Layout) (p : ℕ) → has_place l p ≡ true → p ≤ places l
place-most l p h = leb-true p (places l) (and_parts (nat_le 1 p) (nat_le p (places l)) h).1

-- What a desk keeps.

pub desk-kept : (q r : Place) (k l : Links) → IsDesk q k → state r ≡ state q → length r.out.lists ≡ length q.out.lists → Counts k l → IsDesk r l
desk-kept q r k l h st lists c = record {
  reaches = λ p o. c.reaches p ∙ h.reaches p (subst (λ (z : PlaceState). IsOther z.layout z.number p) st o);
  lists = lists ∙ h.lists ∙ ap (λ (z : PlaceState). places z.layout + 1) (sym st);
}

-- after a turn with a packet
pub desk-worked : (q r : Place) (k : Links) (x : Packet) (w : Seated) → IsDesk q k → state r ≡ (work x (begun_by (state q) w x)).place → r.out.lists ≡ with_all (work x (begun_by (state q) w x)).puts q.out.lists → IsDesk r k
desk-worked q r k x w h st lists = record {
  reaches = λ p o.
      h.reaches p (subst (λ n. IsOther q.layout n p) number (subst (λ m. IsOther m r.number p) layout o));
  lists =
      ap length lists ∙ all-length (work x (begun_by (state q) w x)).puts q.out.lists ∙ h.lists ∙ ap (λ (m : Layout). places m + 1) (sym layout);
}
  where
    layout : r.layout ≡ q.layout
    layout = ap (λ (z : PlaceState). z.layout) st ∙ (work-stays x (begun_by (state q) w x)).layout

    number : r.number ≡ q.number
    number = ap (λ (z : PlaceState). z.number) st ∙ (work-stays x (begun_by (state q) w x)).number

-- after a command
pub desk-acted : (q r : Place) (k : Links) (x : Command) (w : Seated) → IsDesk q k → state r ≡ (act x (begun (state q) w)).place → r.out.lists ≡ with_all (act x (begun (state q) w)).puts q.out.lists → IsDesk r k
desk-acted q r k x w h st lists = record {
  reaches = λ p o.
      h.reaches p (subst (λ n. IsOther q.layout n p) number (subst (λ m. IsOther m r.number p) layout o));
  lists =
      ap length lists ∙ all-length (act x (begun (state q) w)).puts q.out.lists ∙ h.lists ∙ ap (λ (m : Layout). places m + 1) (sym layout);
}
  where
    layout : r.layout ≡ q.layout
    layout = ap (λ (z : PlaceState). z.layout) st ∙ (act-stays x (begun (state q) w)).layout

    number : r.number ≡ q.number
    number = ap (λ (z : PlaceState). z.number) st ∙ (act-stays x (begun (state q) w)).number

-- after its answer
pub desk-called : (result : Result Reply PlaceFault) (q r : Place) (k : Links) (x : Command) (w v : Seated) → IsDesk q k
    → IfOk result (λ reply. Called q r w v x reply) → OnErr result (Stays q r × (v ≡ w)) → IsDesk r k
desk-called (Ok reply) q r k x w v h ok refused = desk-acted q r k x w h ok.ended.state ok.ended.waits
desk-called (Err fault) q r k x w v h ok refused = desk-kept q r k k h refused.0.state (ap length refused.0.waits) (counts-self k)

-- a new desk
new-lists : (l : Layout) (q : Place) (s : ℕ) → q.out.lists ≡ nothing_to (places l) → state q ≡ started l s → length q.out.lists ≡ places q.layout + 1
new-lists l q s lists st = ap length lists ∙ length-replicate (places l + 1) [] ∙ ap (λ (z : PlaceState). places z.layout + 1) (sym st)

pub desk-started : (l : Layout) (n : ℕ) (q : Place) (k : Links) → ((p : ℕ) → IsOther l n p → k.reaches p ≡ true) → state q ≡ started l n → q.out.lists ≡ nothing_to (places l) → IsDesk q k
desk-started l n q k reaches st lists = record {
  reaches = λ p o. reaches p (subst (λ (z : PlaceState). IsOther z.layout z.number p) st o);
  lists = new-lists l q n lists st;
}

-- what was put in a turn with a packet waits
pub turn-waits : (q r : Place) (k : Links) (os : List Outgoing) → IsDesk q k → r.out.lists ≡ with_all os q.out.lists → (p : ℕ) → has_place q.layout p ≡ true
    → GoesOut p (puts_to p (map as_sent os)) q.out.lists r.out.lists k k
turn-waits q r k os h lists p here = record {
  pushed = [];
  sent = sym (append-nil (k.sent p));
  waits = ap (list_to p) lists ∙ all-wait p os q.out.lists (let n = h.lists in let m = place-most q.layout p here in omega (arith, n, m));
}

-- a command was performed, and no link was touched
pub performs : (a e : DeskState) (x : Command) (r : Reply) (w v : Seated) → IsDesk a.place a.links → e.links ≡ a.links → Called a.place e.place w v x r → Performs x r a e w v
performs a e x r w v h same ok = record {
  called = ok;
  out = λ p here.
      subst (λ (k : Links). GoesOut p (puts_to p (map as_sent (act x (begun (state a.place) w)).puts)) a.place.out.lists e.place.out.lists a.links k) (sym same)
      (turn-waits a.place e.place a.links (act x (begun (state a.place) w)).puts h ok.ended.waits p here);
}

-- The packet in hand.

pub in-none : {P : Type 0} (packet : P → Packet) (o : Option (Held P)) → in_hand packet o ≡ None → o ≡ None
in-none packet None e = refl
in-none packet (Some held) e = absurd (cc)

pub on-err : {T E Q : Type 0} (result : Result T E) → Q → OnErr result Q
on-err (Ok x) q = tt
on-err (Err e) q = q

-- what the code compares is the greatest of three clocks
pub compares : (own last heard : ℕ) (a b c d : ℕ) → a ≡ own → b ≡ last → c ≡ max b heard → d ≡ max a c → d ≡ max own (max last heard)
compares own last heard a b c d x y z v = v ∙ ap (λ n. max n c) x ∙ ap (max own) (z ∙ ap (λ n. max n heard) y)

pub handled-worked : (from : ℕ) (k : Packet) (q r : Place) (links : Links) (was : Option (ℕ × Packet)) (last count more : ℕ) (w x : Seated)
    → IsDesk q links → was ≡ None → is_lawful from k (state q) ≡ true → greatest_clock (begun_by (state q) w k) < CLOCK_LIMIT → WorkedOff q r w x k → more ≡ raised count
    → HandlesPacket (pumps.Served from) from k (record { place = q; links = links; hand = was; last = last; worked = count })
    (record { place = r; links = links; hand = was; last = last; worked = more }) w x
handled-worked from k q r links was last count more w x h none lawful unworn done counted = (
  refl,
  unworn,
  inl (record {
    lawful = lawful;
    state = done.state;
    caller = done.caller_is;
    out = turn-waits q r links (work k (begun_by (state q) w k)).puts h done.waits;
    counted = record { puts = done.puts; spare = done.spare };
    links = refl;
    hand = none;
    last = refl;
    worked = counted;
  }),
)

-- a turn with it that was refused as worn
abbrev pub with_back : Packet → Result Pump PlaceFault → Result (Unit {0}) (Packet × PlaceFault)
with_back k (Ok pump) = Ok tt
with_back k (Err fault) = Err (k, fault)

pub work-worn : (k back : Packet) (d : DeskState) (w : Seated) (clock : ℕ) → IsWornBack clock back k (begins_with k d w) → IsWornAt clock k d w
work-worn k back d w clock h = record { greatest = h.1; worn = subst (λ n. CLOCK_LIMIT ≤ n) (sym h.1) h.0 }
