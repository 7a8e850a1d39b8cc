-- What goes out and what comes in, step by step.
-- p is a place, ls, ms and ns are the packets that wait, by place; k, l and m are what the ends show, one after the other.
use Rattle.std.proofs.Common.{ℕ, zero, suc, ◌≡◌, ◌≢◌, ◌+◌, ◌-◌, ◌^◌, ◌<◌, ◌≤◌, ◌==◌, Bool, true, false, nat_lt, cond, List, [], ◌∷◌, ◌++◌, length, drop, Option, Some, None, slice_get, map, refl, sym, ◌∙◌, ap, subst, inl, inr, arith, append_assoc}
use Rattle.std.proofs.lemmas.Bool.{eq-eqb, ne_eqb, eqb-true, eqb-false, ltb-true, ltb-false}
use Rattle.std.specs.Option.{unwrap_or}
use Rattle.std.proofs.lemmas.List.{append-nil, length-set, get_or-set_same, get_or-set_other}
use Rattle.chorus_ui.specs.declared.layout.Layout.{Layout}
use Rattle.chorus_entry.specs.declared.packet.Packet.{Packet}
use Rattle.place_outbox.specs.Waiting.{list_to, with_last, with_first, without_first, count}
use Rattle.law_machine.specs.declared.outgoing.Outgoing.{Outgoing}
use Rattle.law_machine.specs.PlaceState.{PlaceState}
use Rattle.chorus_place.specs.Calls.{Place, state}
use Rattle.chorus_place.specs.PlaceTables.Sending.{with_all}
use Rattle.chorus_io.specs.Count.{Rose}
use Rattle.chorus_ends.specs.Links.{Links, Counts, Sends, MovesNothing}
use Rattle.law_history.specs.Turns.{puts_to}
use Rattle.law_history.specs.PlaceTurns.{as_sent}
use Rattle.chorus_serve.specs.Flows.{ComesNext, IsOther, GoesOut, Pushes, KeepsAtFull}

-- Counts.

pub counts-self : (k : Links) → Counts k k
counts-self k = record { name = refl; reaches = λ p. refl; fulls = λ p. omega arith; empties = λ p. omega arith }

pub counts-on : (k l m : Links) → Counts k l → Counts l m → Counts k m
counts-on k l m a b = record {
  name = b.name ∙ a.name;
  reaches = λ p. b.reaches p ∙ a.reaches p;
  fulls = λ p. (let x = a.fulls p in let y = b.fulls p in omega (arith, x, y));
  empties = λ p. (let x = a.empties p in let y = b.empties p in omega (arith, x, y));
}

pub rose-on : (a b c : ℕ) → Rose a b → b ≤ c → Rose a c
rose-on a b c r le = λ lt. (let x = r lt in omega (arith, x, le))

pub rose-behind : (a b c : ℕ) → a ≤ b → b ≤ c → Rose b c → Rose a c
rose-behind a b c le up r = by (nat_lt b (2 ^ 64 - 1)) refl
  where
    by : (t : Bool) → nat_lt b (2 ^ 64 - 1) ≡ t → Rose a c
    by true e = λ lt. (let x = r (ltb-true b (2 ^ 64 - 1) e) in omega (arith, x, le))
    by false e = λ lt. (let x = ltb-false b (2 ^ 64 - 1) e in omega (arith, x, lt, up))

-- What goes out.

pub goes-nothing : (p : ℕ) (ls : List (List Packet)) (k l : Links) → l.sent p ≡ k.sent p → GoesOut p [] ls ls k l
goes-nothing p ls k l e = record {
  pushed = [];
  sent = e ∙ sym (append-nil (k.sent p));
  waits = sym (append-nil (list_to p ls));
}

pub goes-on : (p : ℕ) (put more : List Packet) (ls ms ns : List (List Packet)) (k l m : Links) → GoesOut p put ls ms k l → GoesOut p more ms ns l m → GoesOut p (put ++ more) ls ns k m
goes-on p put more ls ms ns k l m a b = record {
  pushed = a.pushed ++ b.pushed;
  sent = b.sent ∙ ap (λ xs. xs ++ b.pushed) a.sent ∙ append_assoc (k.sent p) a.pushed b.pushed;
  waits =
      append_assoc a.pushed b.pushed (list_to p ns) ∙ ap (λ xs. a.pushed ++ xs) b.waits
      ∙ sym (append_assoc a.pushed (list_to p ms) more) ∙ ap (λ xs. xs ++ more) a.waits ∙ append_assoc (list_to p ls) put more;
}

-- the first packet that waits is sent
first-is : (x : Packet) (ls : List Packet) → slice_get ls 0 ≡ Some x → ls ≡ x ∷ drop 1 ls
first-is x [] e = absurd (cc)
first-is x (y ∷ ls) e = ap (λ (o : Option Packet). unwrap_or o x ∷ ls) e

waits-some : (to : ℕ) (x : Packet) (ls : List (List Packet)) → slice_get (list_to to ls) 0 ≡ Some x → to < length ls
waits-some to x [] e = absurd (cc)
waits-some zero x (l ∷ ls) e = omega arith
waits-some (suc to) x (l ∷ ls) e = (let h = waits-some to x ls e in omega (arith, h))

pub one-goes : (to p : ℕ) (x : Packet) (ls : List (List Packet)) (k l : Links) → slice_get (list_to to ls) 0 ≡ Some x → Sends to x k l → GoesOut p [] ls (without_first to ls) k l
one-goes to p x ls k l e s = by (p == to) refl
  where
    here : p ≡ to → GoesOut p [] ls (without_first to ls) k l
    here is = record {
      pushed = x ∷ [];
      sent = s.sent p ∙ ap (λ b. cond b (k.sent p ++ x ∷ []) (k.sent p)) (eq-eqb p to is);
      waits =
          ap (λ ys. x ∷ ys) (ap (λ q. list_to q (without_first to ls)) is ∙ get_or-set_same ls to (drop 1 (list_to to ls)) [] (waits-some to x ls e))
          ∙ sym (first-is x (list_to to ls) e) ∙ sym (ap (λ q. list_to q ls) is) ∙ sym (append-nil (list_to p ls));
    }

    there : p ≢ to → GoesOut p [] ls (without_first to ls) k l
    there ne = record {
      pushed = [];
      sent = s.sent p ∙ ap (λ b. cond b (k.sent p ++ x ∷ []) (k.sent p)) (ne_eqb p to ne) ∙ sym (append-nil (k.sent p));
      waits = get_or-set_other ls to p (drop 1 (list_to to ls)) [] ne ∙ sym (append-nil (list_to p ls));
    }

    by : (b : Bool) → (p == to) ≡ b → GoesOut p [] ls (without_first to ls) k l
    by true t = here (eqb-true p to t)
    by false f = there (eqb-false p to f)

-- a packet that is put back
pub back-again : (to : ℕ) (x : Packet) (ls : List (List Packet)) → slice_get (list_to to ls) 0 ≡ Some x → with_first to x (without_first to ls) ≡ ls
back-again to x [] e = absurd (cc)
back-again zero x (l ∷ ls) e = ap (λ ys. ys ∷ ls) (sym (first-is x l e))
back-again (suc to) x (l ∷ ls) e = ap (λ ys. l ∷ ys) (back-again to x ls e)

pub none-waits : (to : ℕ) (ls : List (List Packet)) → slice_get (list_to to ls) 0 ≡ None → list_to to ls ≡ []
none-waits to ls e = by (list_to to ls) e
  where
    by : (l : List Packet) → slice_get l 0 ≡ None → l ≡ []
    by [] h = refl
    by (y ∷ l) h = absurd (cc)

pub none-out : (to : ℕ) (ls : List (List Packet)) → slice_get (list_to to ls) 0 ≡ None → without_first to ls ≡ ls
none-out to [] e = refl
none-out zero (l ∷ ls) e = ap (λ ys. drop 1 ys ∷ ls) (none-waits zero (l ∷ ls) e) ∙ ap (λ ys. ys ∷ ls) (sym (none-waits zero (l ∷ ls) e))
none-out (suc to) (l ∷ ls) e = ap (λ ys. l ∷ ys) (none-out to ls e)

-- where nothing waits at all, none waits for any place
pub nothing-to : (p : ℕ) (ls : List (List Packet)) → count ls ≡ 0 → list_to p ls ≡ []
nothing-to p [] e = refl
nothing-to zero ([] ∷ ls) e = refl
nothing-to zero ((x ∷ l) ∷ ls) e = absurd (omega (arith, e))
nothing-to (suc p) (l ∷ ls) e = nothing-to p ls (omega (arith, e))

-- Sending, packet by packet.

pub pushes-on : (q r s : Place) (k l m : Links) → Pushes q r k l → Pushes r s l m → Pushes q s k m
pushes-on q r s k l m a b = record {
  state = b.state ∙ a.state;
  out = λ p. goes-on p [] [] q.out.lists r.out.lists s.out.lists k l m (a.out p) (b.out p);
  received = λ p. b.received p ∙ a.received p;
  counts = counts-on k l m a.counts b.counts;
  lists = b.lists ∙ a.lists;
  puts = b.puts ∙ a.puts;
  spare = (let x = a.spare in let y = b.spare in omega (arith, x, y));
}

-- lists that are as they were
pub same-pushes : (q r : Place) (k l : Links) → state r ≡ state q → r.out.lists ≡ q.out.lists → r.out.puts ≡ q.out.puts → q.spare ≤ r.spare → MovesNothing k l → Counts k l → Pushes q r k l
same-pushes q r k l st lists put room n c = record {
  state = st;
  out = λ p. subst (λ ls. GoesOut p [] q.out.lists ls k l) (sym lists) (goes-nothing p q.out.lists k l (n.sent p));
  received = n.received;
  counts = c;
  lists = ap length lists;
  puts = put;
  spare = room;
}

-- none waited for the place
pub none-pushes : (to : ℕ) (q r : Place) (k : Links) → state r ≡ state q → r.out.lists ≡ without_first to q.out.lists → r.out.puts ≡ q.out.puts → q.spare ≤ r.spare → slice_get (list_to to q.out.lists) 0 ≡ None
    → Pushes q r k k
none-pushes to q r k st lists put room none =
    same-pushes q r k k st (lists ∙ none-out to q.out.lists none) put room (record { sent = λ p. refl; received = λ p. refl }) (counts-self k)

-- the first one that waited was sent
pub one-pushes : (to : ℕ) (x : Packet) (q r : Place) (k l : Links) → state r ≡ state q → r.out.lists ≡ without_first to q.out.lists → r.out.puts ≡ q.out.puts → q.spare ≤ r.spare
    → slice_get (list_to to q.out.lists) 0 ≡ Some x → Sends to x k l → Counts k l → Pushes q r k l
one-pushes to x q r k l st lists put room some s c = record {
  state = st;
  out = λ p. subst (λ ls. GoesOut p [] q.out.lists ls k l) (sym lists) (one-goes to p x q.out.lists k l some s);
  received = s.received;
  counts = c;
  lists = ap length lists ∙ length-set q.out.lists to (drop 1 (list_to to q.out.lists));
  puts = put;
  spare = room;
}

-- it was put back
pub back-pushes : (to : ℕ) (x y : Packet) (q r s : Place) (k l : Links) → state r ≡ state q → r.out.lists ≡ without_first to q.out.lists → r.out.puts ≡ q.out.puts → q.spare ≤ r.spare
    → slice_get (list_to to q.out.lists) 0 ≡ Some x → state s ≡ state r → s.out.lists ≡ with_first to y r.out.lists → s.out.puts ≡ r.out.puts → r.spare ≤ s.spare → y ≡ x → MovesNothing k l → Counts k l → Pushes q s k l
back-pushes to x y q r s k l st lists put room some st2 back put2 more same n c =
    same-pushes q s k l (st2 ∙ st)
    (back ∙ ap (λ z. with_first to z r.out.lists) same ∙ ap (with_first to x) lists ∙ back-again to x q.out.lists some)
    (put2 ∙ put) (omega (arith, room, more)) n c

-- nothing more waits for a place where nothing waited
pub stays-empty : (p : ℕ) (ls ms : List (List Packet)) (k l : Links) → GoesOut p [] ls ms k l → list_to p ls ≡ [] → list_to p ms ≡ []
stays-empty p ls ms k l g e = by g.pushed (list_to p ms) (g.waits ∙ append-nil (list_to p ls) ∙ e)
  where
    by : (xs ys : List Packet) → xs ++ ys ≡ [] → ys ≡ []
    by [] ys h = h
    by (x ∷ xs) ys h = absurd (cc)

pub full-on : (p : ℕ) (ls ms : List (List Packet)) (k l m : Links) → GoesOut p [] ls ms l m → Counts l m → KeepsAtFull p ls k l → KeepsAtFull p ms k m
full-on p ls ms k l m g c (inl none) = inl (stays-empty p ls ms l m g none)
full-on p ls ms k l m g c (inr rose) = inr (rose-on (k.fulls p) (l.fulls p) (m.fulls p) rose (c.fulls p))

pub full-behind : (p : ℕ) (ms : List (List Packet)) (k l m : Links) → Counts k l → Counts l m → KeepsAtFull p ms l m → KeepsAtFull p ms k m
full-behind p ms k l m b c (inl none) = inl none
full-behind p ms k l m b c (inr rose) = inr (rose-behind (k.fulls p) (l.fulls p) (m.fulls p) (b.fulls p) (c.fulls p) rose)

-- the same of all places below the next one
pub full-more : (to : ℕ) (q r s : Place) (k l m : Links) → Pushes q r k l → Pushes r s l m
    → ((p : ℕ) → IsOther q.layout q.number p → p < to → KeepsAtFull p r.out.lists k l)
    → (to ≢ r.number → KeepsAtFull to s.out.lists l m)
    → (p : ℕ) → IsOther q.layout q.number p → p < to + 1 → KeepsAtFull p s.out.lists k m
full-more to q r s k l m a b before here p o lt = by (p == to) refl
  where
    by : (t : Bool) → (p == to) ≡ t → KeepsAtFull p s.out.lists k m
    by true e =
        let is = eqb-true p to e in
        full-behind p s.out.lists k l m a.counts b.counts
        (subst (λ n. KeepsAtFull n s.out.lists l m) (sym is) (here (λ same. o.other (is ∙ same ∙ ap (λ (z : PlaceState). z.number) a.state))))
    by false e = full-on p r.out.lists s.out.lists k l m (b.out p) b.counts (before p o (let ne = eqb-false p to e in omega (arith, lt, ne)))

-- What a turn puts waits behind what waited.

last-at : (p : ℕ) (o : Outgoing) (ls : List (List Packet)) → p < length ls → list_to p (with_last o.to o.packet ls) ≡ list_to p ls ++ puts_to p (as_sent o ∷ [])
last-at p o ls lt = by (o.to == p) refl
  where
    by : (b : Bool) → (o.to == p) ≡ b → list_to p (with_last o.to o.packet ls) ≡ list_to p ls ++ cond b (o.packet ∷ []) []
    by true t =
        let is = sym (eqb-true o.to p t) in
        ap (λ q. list_to q (with_last o.to o.packet ls)) is
        ∙ get_or-set_same ls o.to (list_to o.to ls ++ o.packet ∷ []) [] (subst (λ q. q < length ls) is lt)
        ∙ sym (ap (λ q. list_to q ls ++ o.packet ∷ []) is)
    by false f =
        get_or-set_other ls o.to p (list_to o.to ls ++ o.packet ∷ []) [] (λ e. eqb-false o.to p f (sym e)) ∙ sym (append-nil (list_to p ls))

puts-more : (p : ℕ) (o : Outgoing) (os : List Outgoing) → puts_to p (as_sent o ∷ []) ++ puts_to p (map as_sent os) ≡ puts_to p (map as_sent (o ∷ os))
puts-more p o os = by (o.to == p)
  where
    by : (b : Bool) → cond b (o.packet ∷ []) [] ++ puts_to p (map as_sent os) ≡ cond b (o.packet ∷ puts_to p (map as_sent os)) (puts_to p (map as_sent os))
    by true = refl
    by false = refl

pub all-length : (os : List Outgoing) (ls : List (List Packet)) → length (with_all os ls) ≡ length ls
all-length [] ls = refl
all-length (o ∷ os) ls = all-length os (with_last o.to o.packet ls) ∙ length-set ls o.to (list_to o.to ls ++ o.packet ∷ [])

pub all-wait : (p : ℕ) (os : List Outgoing) (ls : List (List Packet)) → p < length ls → list_to p (with_all os ls) ≡ list_to p ls ++ puts_to p (map as_sent os)
all-wait p [] ls lt = sym (append-nil (list_to p ls))
all-wait p (o ∷ os) ls lt =
    all-wait p os (with_last o.to o.packet ls) (subst (λ n. p < n) (sym (length-set ls o.to (list_to o.to ls ++ o.packet ∷ []))) lt)
    ∙ ap (λ xs. xs ++ puts_to p (map as_sent os)) (last-at p o ls lt)
    ∙ append_assoc (list_to p ls) (puts_to p (as_sent o ∷ [])) (puts_to p (map as_sent os))
    ∙ ap (λ xs. list_to p ls ++ xs) (puts-more p o os)

-- What comes in.

-- the same from an earlier moment on
pub comes-behind : (y : Layout) (number last : ℕ) (o : Option (ℕ × Packet)) (k l m : Links) → Counts k l → Counts l m → ComesNext y number last o l m → ComesNext y number last o k m
comes-behind y number last None k l m b c n = tt
comes-behind y number last (Some (from, packet)) k l m b c n = record {
  other = n.other;
  empties = λ p o t. rose-behind (k.empties p) (l.empties p) (m.empties p) (b.empties p) (c.empties p) (n.empties p o t);
}

-- and up to a later one
pub comes-on : (y : Layout) (number last : ℕ) (o : Option (ℕ × Packet)) (k l m : Links) → Counts l m → ComesNext y number last o k l → ComesNext y number last o k m
comes-on y number last None k l m c n = tt
comes-on y number last (Some (from, packet)) k l m c n = record {
  other = n.other;
  empties = λ p o t. rose-on (k.empties p) (l.empties p) (m.empties p) (n.empties p o t) (c.empties p);
}
