-- A round works off a packet, or there was none; so after as many rounds as was left none is there.
use Rattle.std.proofs.Common.{ℕ, zero, suc, ◌≡◌, ◌≢◌, ◌⊎◌, ◌<◌, ◌≤◌, ◌+◌, ◌==◌, nat_le, Bool, true, false, ◌&&◌, ◌||◌, not, cond, List, [], ◌∷◌, ◌++◌, reverse, Option, Some, None, is_some, slice_get, refl, sym, ◌∙◌, ap, subst, append_assoc, inl, inr, arith}
use Rattle.std.specs.List.{All}
use Rattle.std.proofs.lemmas.Bool.{cases_Bool, eqb-true, eq-eqb, false≢true, true≢false, and_parts, and_from, or_left, leb-true}
use Rattle.std.proofs.lemmas.List.{reverse-append}
use Rattle.std.proofs.lemmas.List.Elements.{All-head, All-tail}
use Rattle.chorus_ui.specs.declared.layout.Layout.{Layout}
use Rattle.chorus_ui.specs.Layout as layout
use Rattle.chorus_ui.specs.Layout.{IsLayout, has_place}
use Rattle.chorus_entry.specs.declared.packet.Packet.{Packet}
use Rattle.chorus_calls.specs.Callers.{Seated}
use Rattle.law_machine.specs.declared.outgoing.Outgoing.{Outgoing}
use Rattle.law_network.specs.Packets.{is_link, first_on}
use Rattle.law_network.specs.Network.{NetState, Event, Enter, Act, Deliver, See, numbers, place_numbers, shown, happened, after, opening, schedule, from_one, from_each, round, rounds, one_if, drains_on, drained}
use Rattle.law_network.specs.Schedules.{may_happen, may_be}
use Rattle.law_network.specs.Left.{packets_left, merged_past}
use Rattle.law_network.specs.Quiet.{IsQuiet}
use Rattle.law_network.specs.ByPlace.{IsBetweenPlaces}
use Rattle.law_network.proofs.Places.Layouts.{schedule-keeps}
use Rattle.law_network.proofs.Holdings.Passing.{packets-lie-between}
use Rattle.law_network.proofs.Promises.Promised.{quiet-at}
use Rattle.law_network.proofs.Draining.Drains.{after-append, idle-event, layout-stays, round-deliveries, rounds-last}
use Rattle.law_network.proofs.Draining.Ending.{caller-actor, rounds-may}
use Rattle.law_network.specs.Rank.{rank}
use Rattle.law_ending.specs.Rounds.{gives_none, give_none, works, worked, delivers, one_delivers, IsRound, HaveRounds}
use Rattle.law_ending.specs.Endings.{RoundsWork, RoundsEnd, RoundsAreMade, DrainsTakeFew}
use Rattle.law_ending.proofs.Keys.{no-packet-left}
use Rattle.law_ending.proofs.Lowering.{deliveries-are-few, may-older}

-- What works nothing off leaves the packets as they were.

one-leaves : (e : Event) (n : NetState) → gives_none e ≡ true → works e n ≡ 0 → (happened e n).packets ≡ n.packets
one-leaves (Enter actor last) n none h = refl
one-leaves (Act k c) n none h = absurd (false≢true none)
one-leaves (Deliver k a b) n none h = ap (λ (z : NetState). z.packets) (idle-event (Deliver k a b) n h)
one-leaves (See k c) n none h = go (slice_get n.callers k)
  where
    go : (o : Option Seated) → (shown k c o n).packets ≡ n.packets
    go None = refl
    go (Some caller) = refl

leaves : (ds : List Event) (n : NetState) → give_none ds ≡ true → worked ds n ≡ 0 → (after ds n).packets ≡ n.packets
leaves [] n none h = refl
leaves (d ∷ ds) n none h =
    let g = and_parts (gives_none d) (give_none ds) none in
    one-leaves d (after ds n) g.0 (omega (arith, h)) ∙ leaves ds n g.1 (omega (arith, h))

-- and where there is no packet, none is worked off

one-dry : (e : Event) (n : NetState) → n.packets ≡ [] → works e n ≡ 0
one-dry (Enter actor last) n h = refl
one-dry (Act k c) n h = refl
one-dry (See k c) n h = refl
one-dry (Deliver k a b) n h = ap (λ os. one_if (is_some (slice_get n.callers k) && is_some (first_on a b os))) h ∙ go (is_some (slice_get n.callers k))
  where
    go : (c : Bool) → one_if (c && false) ≡ 0
    go true = refl
    go false = refl

dry : (ds : List Event) (n : NetState) → give_none ds ≡ true → n.packets ≡ [] → worked ds n ≡ 0
dry [] n none h = refl
dry (d ∷ ds) n none h =
    let g = and_parts (gives_none d) (give_none ds) none in
    let rest = dry ds n g.1 h in
    let one = one-dry d (after ds n) (leaves ds n g.1 rest ∙ h) in
    omega (arith, one, rest)

stays-empty : (ds : List Event) (n : NetState) → give_none ds ≡ true → n.packets ≡ [] → (after ds n).packets ≡ []
stays-empty ds n none h = leaves ds n none (dry ds n none h) ∙ h

-- A round that works nothing off finds no packet from any place to any other.

delivers-is : (e : Event) (a b : ℕ) → delivers a b e ≡ true → (k : ℕ) × (e ≡ Deliver k a b)
delivers-is (Enter actor last) a b h = absurd (false≢true h)
delivers-is (Act k c) a b h = absurd (false≢true h)
delivers-is (See k c) a b h = absurd (false≢true h)
delivers-is (Deliver k x y) a b h =
    let two = and_parts (x == a) (y == b) h in
    (k, ap (λ i. Deliver k i y) (eqb-true x a two.0) ∙ ap (λ i. Deliver k a i) (eqb-true y b two.1))

-- a delivery by a caller that works nothing off finds nothing
found-none : (e : Event) (a b : ℕ) (n : NetState) → may_happen e n ≡ true → works e n ≡ 0 → delivers a b e ≡ true → first_on a b n.packets ≡ None
found-none e a b n happens idle here =
    let is = delivers-is e a b here in
    go is.0 (subst (λ z. may_happen z n ≡ true) is.1 happens) (subst (λ z. works z n ≡ 0) is.1 idle)
  where
    empty : (c : Bool) (o : Option Packet) → c ≡ true → one_if (c && is_some o) ≡ 0 → o ≡ None
    empty c None e h = refl
    empty true (Some q) e h = absurd (omega (arith, h))
    empty false (Some q) e h = absurd (false≢true e)

    go : (k : ℕ) → may_happen (Deliver k a b) n ≡ true → works (Deliver k a b) n ≡ 0 → first_on a b n.packets ≡ None
    go k happens idle =
        let some = is_some (slice_get n.callers k) in
        let two = and_parts (some && has_place n.layout a && has_place n.layout b) (not (a == b)) happens in
        let three = and_parts (some && has_place n.layout a) (has_place n.layout b) two.0 in
        let four = and_parts some (has_place n.layout a) three.0 in
        empty some (first_on a b n.packets) four.0 idle

none-from : (l : Layout) (es ds : List Event) (a b : ℕ) → may_be l (ds ++ es) ≡ true → give_none ds ≡ true → worked ds (schedule l es) ≡ 0 → one_delivers a b ds ≡ true → first_on a b (schedule l es).packets ≡ None
none-from l es [] a b may none idle one = absurd (false≢true one)
none-from l es (d ∷ ds) a b may none idle one =
    let m = and_parts (may_happen d (schedule l (ds ++ es))) (may_be l (ds ++ es)) may in
    let g = and_parts (gives_none d) (give_none ds) none in
    let older : worked ds (schedule l es) ≡ 0 = omega (arith, idle) in
    let now : schedule l (ds ++ es) ≡ after ds (schedule l es) = after-append ds es (opening l) in
    let here : works d (schedule l (ds ++ es)) ≡ 0 = ap (works d) now ∙ omega (arith, idle) in
    let same : (schedule l (ds ++ es)).packets ≡ (schedule l es).packets = ap (λ (z : NetState). z.packets) now ∙ leaves ds (schedule l es) g.1 older in
    go (delivers a b d) refl one (none-from l es ds a b m.1 g.1 older) (λ h. ap (first_on a b) (sym same) ∙ found-none d a b (schedule l (ds ++ es)) m.0 here h)
  where
    go : (c : Bool) → delivers a b d ≡ c → (c || one_delivers a b ds) ≡ true → (one_delivers a b ds ≡ true → first_on a b (schedule l es).packets ≡ None) → (delivers a b d ≡ true → first_on a b (schedule l es).packets ≡ None) → first_on a b (schedule l es).packets ≡ None
    go true e o ih found = found e
    go false e o ih found = ih o

no-packets : (l : Layout) (os : List Outgoing) → All (IsBetweenPlaces l) os → ((a b : ℕ) → has_place l a ≡ true → has_place l b ≡ true → (a == b) ≡ false → first_on a b os ≡ None) → os ≡ []
no-packets l [] between none = refl
no-packets l (o ∷ os) between none =
    let b = All-head (IsBetweenPlaces l) o os between in
    let here : is_link o.packet.from o.to o ≡ true = and_from (o.packet.from == o.packet.from) (o.to == o.to) (eq-eqb o.packet.from o.packet.from refl) (eq-eqb o.to o.to refl) in
    let found : is_some (first_on o.packet.from o.to (o ∷ os)) ≡ true = ap (λ c. is_some (cond c (Some o.packet) (first_on o.packet.from o.to os))) here in
    absurd (true≢false (sym found ∙ ap is_some (none o.packet.from o.to b.has_from b.has_to b.apart)))

pub rounds-work : RoundsWork
rounds-work l es ds shape may none covers = go (worked ds (schedule l es)) refl
  where
    go : (m : ℕ) → worked ds (schedule l es) ≡ m → ((schedule l es).packets ≡ []) ⊎ (1 ≤ worked ds (schedule l es))
    go zero idle = inl (no-packets l (schedule l es).packets (packets-lie-between l es shape (may-older l ds es may)) (λ a b ha hb ne. none-from l es ds a b may none idle (covers a b ha hb ne)))
    go (suc m) e = inr (omega (arith, e))

-- Rounds.

none-parts : (ds es : List Event) → give_none (ds ++ es) ≡ true → (give_none ds ≡ true) × (give_none es ≡ true)
none-parts [] es h = (refl, h)
none-parts (d ∷ ds) es h =
    let g = and_parts (gives_none d) (give_none (ds ++ es)) h in
    let rest = none-parts ds es g.1 in
    (and_from (gives_none d) (give_none ds) g.0 rest.0, rest.1)

-- each round works off a packet, as long as there is one
fewer : (l : Layout) (es : List Event) (count : ℕ) (ds : List Event) → IsLayout l → may_be l (ds ++ es) ≡ true → give_none ds ≡ true → HaveRounds l count ds → ((schedule l (ds ++ es)).packets ≡ []) ⊎ (rank (schedule l (ds ++ es)) + count ≤ rank (schedule l es))
fewer l es zero ds shape may none h =
    let few = deliveries-are-few l es ds shape may none in
    let now : rank (schedule l (ds ++ es)) ≡ rank (after ds (schedule l es)) = ap rank (after-append ds es (opening l)) in
    inr (omega (arith, few, now))
fewer l es (suc count) ds shape may none h =
    let later = h.0 in
    let older = h.1.0 in
    let parts = h.1.1 in
    let both = none-parts later older (subst (λ z. give_none z ≡ true) parts.0 none) in
    let whole : ds ++ es ≡ later ++ (older ++ es) = ap (λ z. z ++ es) parts.0 ∙ append_assoc later older es in
    let may_all : may_be l (later ++ (older ++ es)) ≡ true = subst (λ z. may_be l z ≡ true) whole may in
    let may_old = may-older l later (older ++ es) may_all in
    subst (λ z. ((schedule l z).packets ≡ []) ⊎ (rank (schedule l z) + suc count ≤ rank (schedule l es))) (sym whole)
    (one later older both.0 may_all parts.1 (fewer l es count older shape may_old both.1 parts.2))
  where
    one : (later older : List Event) → give_none later ≡ true → may_be l (later ++ (older ++ es)) ≡ true → IsRound l later → ((schedule l (older ++ es)).packets ≡ []) ⊎ (rank (schedule l (older ++ es)) + count ≤ rank (schedule l es))
        → ((schedule l (later ++ (older ++ es))).packets ≡ []) ⊎ (rank (schedule l (later ++ (older ++ es))) + suc count ≤ rank (schedule l es))
    one later older none may covers before =
        let now : schedule l (later ++ (older ++ es)) ≡ after later (schedule l (older ++ es)) = after-append later (older ++ es) (opening l) in
        let empty : (schedule l (older ++ es)).packets ≡ [] → (schedule l (later ++ (older ++ es))).packets ≡ [] =
        λ e. ap (λ (z : NetState). z.packets) now ∙ stays-empty later (schedule l (older ++ es)) none e in
        elim before [
          | inl e ↦ inl (empty e)
          | inr less ↦ elim (rounds-work l (older ++ es) later shape may none covers) [
            | inl e ↦ inl (empty e)
            | inr some ↦ inr (let few = deliveries-are-few l (older ++ es) later shape may none in let same : rank (schedule l (later ++ (older ++ es))) ≡ rank (after later (schedule l (older ++ es))) = ap rank now in omega (arith, less, some, few, same))
          ]
        ]

emptied : (l : Layout) (es ds : List Event) → IsLayout l → may_be l (ds ++ es) ≡ true → give_none ds ≡ true → (count : ℕ) → rank (schedule l es) ≤ count → HaveRounds l count ds → (schedule l (ds ++ es)).packets ≡ []
emptied l es ds shape may none count le h =
    elim (fewer l es count ds shape may none h) [
      | inl e ↦ e
      | inr less ↦ no-packet-left (schedule l (ds ++ es)) (omega (arith, less, le))
    ]

pub rounds-end : RoundsEnd
rounds-end l es ds shape may none count le h =
    subst (λ n. IsQuiet l (merged_past n) (packets_left n)) (after-append ds es (opening l)) (quiet-at l (ds ++ es) shape may (emptied l es ds shape may none count le h))

-- The rounds of one seat.

or-first : (a b : ℕ) (xs ys : List Event) → one_delivers a b xs ≡ true → one_delivers a b (xs ++ ys) ≡ true
or-first a b [] ys h = absurd (false≢true h)
or-first a b (x ∷ xs) ys h = go (delivers a b x) h (or-first a b xs ys)
  where
    go : (c : Bool) → (c || one_delivers a b xs) ≡ true → (one_delivers a b xs ≡ true → one_delivers a b (xs ++ ys) ≡ true) → (c || one_delivers a b (xs ++ ys)) ≡ true
    go true h ih = refl
    go false h ih = ih h

or-later : (a b : ℕ) (xs ys : List Event) → one_delivers a b ys ≡ true → one_delivers a b (xs ++ ys) ≡ true
or-later a b [] ys h = h
or-later a b (x ∷ xs) ys h = go (delivers a b x) (or-later a b xs ys h)
  where
    go : (c : Bool) → one_delivers a b (xs ++ ys) ≡ true → (c || one_delivers a b (xs ++ ys)) ≡ true
    go true ih = refl
    go false ih = ih

or-reverse : (a b : ℕ) (xs : List Event) → one_delivers a b xs ≡ true → one_delivers a b (reverse xs) ≡ true
or-reverse a b [] h = h
or-reverse a b (x ∷ xs) h = subst (λ z. one_delivers a b z ≡ true) (sym (reverse-append (x ∷ []) xs)) (go (delivers a b x) refl h (or-reverse a b xs))
  where
    go : (c : Bool) → delivers a b x ≡ c → (c || one_delivers a b xs) ≡ true → (one_delivers a b xs ≡ true → one_delivers a b (reverse xs) ≡ true) → one_delivers a b (reverse xs ++ x ∷ []) ≡ true
    go true e h ih = or-later a b (reverse xs) (x ∷ []) (ap (λ c. c || false) e)
    go false e h ih = or-first a b (reverse xs) (x ∷ []) (ih h)

module _ (k a b : ℕ) (apart : (a == b) ≡ false) where
  to-one : (m p : ℕ) → p ≤ b → b < p + m → one_delivers a b (from_one k a (numbers m p)) ≡ true
  to-one zero p le lt = absurd (omega (arith, le, lt))
  to-one (suc m) p le lt =
      elim (cases_Bool (p == b)) [
        | inl here ↦ (
            let same : p ≡ b = eqb-true p b here in
            let off : (a == p) ≡ false = ap (λ i. a == i) same ∙ apart in
            or-first a b (cond (a == p) [] (Deliver k a p ∷ [])) (from_one k a (numbers m (p + 1)))
            (ap (λ c. one_delivers a b (cond c [] (Deliver k a p ∷ []))) off
            ∙ or_left ((a == a) && (p == b)) false (and_from (a == a) (p == b) (eq-eqb a a refl) here)))
        | inr other ↦ (
            let ne : p ≢ b = (λ same. false≢true (sym other ∙ eq-eqb p b same)) in
            or-later a b (cond (a == p) [] (Deliver k a p ∷ [])) (from_one k a (numbers m (p + 1)))
            (to-one m (p + 1) (omega (arith, le, ne)) (omega (arith, lt))))
      ]

  from-any : (bs : List ℕ) (m p : ℕ) → one_delivers a b (from_one k a bs) ≡ true → p ≤ a → a < p + m → one_delivers a b (from_each k (numbers m p) bs) ≡ true
  from-any bs zero p h le lt = absurd (omega (arith, le, lt))
  from-any bs (suc m) p h le lt =
      elim (cases_Bool (p == a)) [
        | inl here ↦ or-first a b (from_one k p bs) (from_each k (numbers m (p + 1)) bs) (subst (λ i. one_delivers a b (from_one k i bs) ≡ true) (sym (eqb-true p a here)) h)
        | inr other ↦ (
            let ne : p ≢ a = (λ same. false≢true (sym other ∙ eq-eqb p a same)) in
            or-later a b (from_one k p bs) (from_each k (numbers m (p + 1)) bs) (from-any bs m (p + 1) h (omega (arith, le, ne)) (omega (arith, lt))))
      ]

round-is : (l : Layout) (k : ℕ) → IsRound l (round l k)
round-is l k a b ha hb apart =
    let ns = place_numbers l in
    let x = and_parts (nat_le 1 a) (nat_le a (layout.places l)) ha in
    let y = and_parts (nat_le 1 b) (nat_le b (layout.places l)) hb in
    let x0 = leb-true 1 a x.0 in
    let x1 = leb-true a (layout.places l) x.1 in
    let y0 = leb-true 1 b y.0 in
    let y1 = leb-true b (layout.places l) y.1 in
    or-reverse a b (from_each k ns ns) (from-any k a b apart ns (layout.places l) 1 (to-one k a b apart (layout.places l) 1 y0 (omega (arith, y1))) x0 (omega (arith, x1)))

have-rounds : (l : Layout) (k count : ℕ) → HaveRounds l count (rounds l k count)
have-rounds l k zero = tt
have-rounds l k (suc count) = (round l k, (rounds l k count, (refl, round-is l k, have-rounds l k count)))

deliveries-give-none : (k : ℕ) (ds : List Event) → All (λ (e : Event). (a : ℕ) × ((b : ℕ) × (e ≡ Deliver k a b))) ds → give_none ds ≡ true
deliveries-give-none k [] h = refl
deliveries-give-none k (d ∷ ds) h =
    let IsDelivery : Event → Type 0 = λ (f : Event). (a : ℕ) × ((b : ℕ) × (f ≡ Deliver k a b)) in
    let head = All-head IsDelivery d ds h in
    and_from (gives_none d) (give_none ds) (ap gives_none head.1.1) (deliveries-give-none k ds (All-tail IsDelivery d ds h))

none-both : (ds es : List Event) → give_none ds ≡ true → give_none es ≡ true → give_none (ds ++ es) ≡ true
none-both [] es g h = h
none-both (d ∷ ds) es g h =
    let two = and_parts (gives_none d) (give_none ds) g in
    and_from (gives_none d) (give_none (ds ++ es)) two.0 (none-both ds es two.1 h)

rounds-give-none : (l : Layout) (k m : ℕ) → give_none (rounds l k m) ≡ true
rounds-give-none l k zero = refl
rounds-give-none l k (suc m) = none-both (round l k) (rounds l k m) (deliveries-give-none k (round l k) (round-deliveries l k)) (rounds-give-none l k m)

pub rounds-are-made : RoundsAreMade
rounds-are-made l es shape may k count some =
    let who = caller-actor (slice_get (schedule l es).callers k) some in
    record { may = (rounds-may l shape k count es who.0 may who.1).0; none = rounds-give-none l k count; rounds = have-rounds l k count }

-- A drain.

-- where so many rounds leave no packet, rounds with a stop leave none
stopped : (k m : ℕ) (n : NetState) → (after (rounds n.layout k m) n).packets ≡ [] → (drained k m n).packets ≡ []
stopped k zero n h = h
stopped k (suc m) n h = go n.packets refl (stopped k m (after (round n.layout k) n))
  where
    go : (os : List Outgoing) → n.packets ≡ os → ((after (rounds (after (round n.layout k) n).layout k m) (after (round n.layout k) n)).packets ≡ [] → (drained k m (after (round n.layout k) n)).packets ≡ []) → (drains_on k (drained k m) os n).packets ≡ []
    go [] e ih = e
    go (o ∷ os) e ih =
        ih (ap (λ (l : Layout). (after (rounds l k m) (after (round n.layout k) n)).packets) (layout-stays (round n.layout k) n)
        ∙ ap (λ (z : NetState). z.packets) (rounds-last n.layout k m n) ∙ h)

pub drains-take-few : DrainsTakeFew
drains-take-few l es shape may k some =
    let n = schedule l es in
    let made = rounds-are-made l es shape may k (rank n) some in
    let none = emptied l es (rounds l k (rank n)) shape made.may made.none (rank n) (omega arith) made.rounds in
    stopped k (rank n) n (ap (λ (z : Layout). (after (rounds z k (rank n)) n).packets) (schedule-keeps l es).layout ∙ ap (λ (z : NetState). z.packets) (sym (after-append (rounds l k (rank n)) es (opening l))) ∙ none)
