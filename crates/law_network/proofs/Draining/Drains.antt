-- Drains: a round that serves nothing changes nothing, so what tasks leave does not depend on the number of rounds; and rounds
-- until one serves nothing, or until no packet is left, are a drain.
use Rattle.std.proofs.Common.{ℕ, zero, suc, ◌≡◌, ◌≤◌, ◌+◌, ◌-◌, ◌==◌, nat_le, Bool, true, false, ◌&&◌, cond, List, [], ◌∷◌, ◌++◌, Option, Some, None, is_some, slice_get, refl, sym, ◌∙◌, ap, append_assoc, inl, inr, arith}
use Rattle.std.specs.List.{All}
use Rattle.std.proofs.lemmas.Bool.{cases_Bool, and_right, leb-true, leb-false}
use Rattle.std.proofs.lemmas.List.{append-nil}
use Rattle.std.proofs.lemmas.List.Elements.{All-nil, All-cons, All-head, All-tail, All-append}
use Rattle.chorus_ui.specs.declared.layout.Layout.{Layout}
use Rattle.chorus_entry.specs.declared.packet.Packet.{Packet}
use Rattle.chorus_entry.specs.declared.command.Command.{Command}
use Rattle.chorus_calls.specs.Callers.{Seated}
use Rattle.law_network.specs.Packets.{first_on}
use Rattle.law_network.specs.Network.{NetState, Event, Enter, Act, Deliver, See, commanded, works_off, delivered, shown, happened, after, opening, schedule, from_one, from_each, place_numbers, round, rounds, one_if, serves, served}
use Rattle.law_network.specs.Schedules.{command_in, commands_of}
use Rattle.law_network.specs.Tasks.{Task, Do, Drain, IsDrain, CarryOut, commands_in, CarriedOutOnce}
use Rattle.law_network.proofs.Merge.Parts.{All-reverse}

-- What serves nothing changes nothing.

idle-delivery : (k a b : ℕ) (o : Option Seated) (n : NetState) → one_if (is_some o && is_some (first_on a b n.packets)) ≡ 0 → delivered k a b o n ≡ n
idle-delivery k a b None n h = refl
idle-delivery k a b (Some caller) n h = go (first_on a b n.packets) h
  where
    go : (o : Option Packet) → one_if (is_some o) ≡ 0 → works_off k a b caller o n ≡ n
    go None g = refl
    go (Some q) g = absurd (omega (arith, g))

pub idle-event : (e : Event) (n : NetState) → serves e n ≡ 0 → happened e n ≡ n
idle-event (Enter actor last) n h = absurd (omega (arith, h))
idle-event (Act k c) n h = absurd (omega (arith, h))
idle-event (Deliver k a b) n h = idle-delivery k a b (slice_get n.callers k) n h
idle-event (See k c) n h = absurd (omega (arith, h))

pub idle : (es : List Event) (n : NetState) → served es n ≡ 0 → after es n ≡ n
idle [] n h = refl
idle (e ∷ es) n h = idle-event e (after es n) (omega (arith, h)) ∙ idle es n (omega (arith, h))

pub after-append : (xs ys : List Event) (n : NetState) → after (xs ++ ys) n ≡ after xs (after ys n)
after-append [] ys n = refl
after-append (x ∷ xs) ys n = ap (happened x) (after-append xs ys n)

more-rounds : (l : Layout) (k m : ℕ) (n : NetState) → served (round l k) n ≡ 0 → after (rounds l k m) n ≡ n
more-rounds l k zero n h = refl
more-rounds l k (suc m) n h =
    after-append (round l k) (rounds l k m) n ∙ ap (after (round l k)) (more-rounds l k m n h) ∙ idle (round l k) n h

rounds-add : (l : Layout) (k i j : ℕ) (n : NetState) → after (rounds l k (i + j)) n ≡ after (rounds l k i) (after (rounds l k j) n)
rounds-add l k zero j n = (let e : 0 + j ≡ j = omega arith in ap (λ m. after (rounds l k m) n) e)
rounds-add l k (suc i) j n =
    (let e : suc i + j ≡ suc (i + j) = omega arith in ap (λ m. after (rounds l k m) n) e)
    ∙ after-append (round l k) (rounds l k (i + j)) n ∙ ap (after (round l k)) (rounds-add l k i j n)
    ∙ sym (after-append (round l k) (rounds l k i) (after (rounds l k j) n))

-- two numbers of rounds after which one more serves nothing leave the same
further : (l : Layout) (k i j : ℕ) (n : NetState) → i ≤ j → served (round l k) (after (rounds l k i) n) ≡ 0 → after (rounds l k j) n ≡ after (rounds l k i) n
further l k i j n le h =
    (let e : j ≡ (j - i) + i = omega (arith, le) in ap (λ m. after (rounds l k m) n) e)
    ∙ rounds-add l k (j - i) i n ∙ more-rounds l k (j - i) (after (rounds l k i) n) h

same-drain : (l : Layout) (k i j : ℕ) (n : NetState) → served (round l k) (after (rounds l k i) n) ≡ 0 → served (round l k) (after (rounds l k j) n) ≡ 0 → after (rounds l k i) n ≡ after (rounds l k j) n
same-drain l k i j n g h =
    elim (cases_Bool (nat_le i j)) [
      | inl less ↦ sym (further l k i j n (leb-true i j less) g)
      | inr more ↦ (let lt = leb-false i j more in further l k j i n (omega (arith, lt)) h)
    ]

drain-leaves : (l : Layout) (k : ℕ) (older es : List Event) (d : IsDrain l k older es) → schedule l es ≡ after (rounds l k d.count) (schedule l older)
drain-leaves l k older es d = ap (schedule l) d.rounds ∙ after-append (rounds l k d.count) older (opening l)

pub carried-out-once : CarriedOutOnce
carried-out-once l [] es fs c d = ap (schedule l) (c ∙ sym d)
carried-out-once l (Do e ∷ ts) es fs c d =
    ap (schedule l) c.1.0 ∙ ap (happened e) (carried-out-once l ts c.0 d.0 c.1.1 d.1.1) ∙ sym (ap (schedule l) d.1.0)
carried-out-once l (Drain k ∷ ts) es fs c d =
    let same : schedule l c.0 ≡ schedule l d.0 = carried-out-once l ts c.0 d.0 c.1.1 d.1.1 in
    let left = drain-leaves l k c.0 es c.1.0 in
    let right = drain-leaves l k d.0 fs d.1.0 ∙ ap (after (rounds l k (d.1.0).count)) (sym same) in
    left
    ∙ same-drain l k (c.1.0).count (d.1.0).count (schedule l c.0)
    (ap (served (round l k)) (sym left) ∙ (c.1.0).dry) (ap (served (round l k)) (sym right) ∙ (d.1.0).dry)
    ∙ sym right

-- The drains of the code.

none-left : (es : List Event) (k : ℕ) (n : NetState) → All (λ (e : Event). (a : ℕ) × ((b : ℕ) × (e ≡ Deliver k a b))) es → n.packets ≡ [] → (served es n ≡ 0) × (after es n ≡ n)
none-left [] k n all none = (refl, refl)
none-left (e ∷ es) k n all none =
    let IsDelivery : Event → Type 0 = λ (f : Event). (a : ℕ) × ((b : ℕ) × (f ≡ Deliver k a b)) in
    let rest = none-left es k n (All-tail IsDelivery e es all) none in
    let head = All-head IsDelivery e es all in
    let dry : serves e n ≡ 0 = ap (λ f. serves f n) head.1.1 ∙ ap (λ ps. one_if (is_some (slice_get n.callers k) && is_some (first_on head.0 head.1.0 ps))) none ∙ ap one_if (and_right (is_some (slice_get n.callers k)) false refl) in (
      ap (λ m. serves e m + served es n) rest.1 ∙ (let z = rest.0 in omega (arith, dry, z)),
      ap (happened e) rest.1 ∙ idle-event e n dry,
    )

one-deliveries : (k a : ℕ) (bs : List ℕ) → All (λ (e : Event). (x : ℕ) × ((y : ℕ) × (e ≡ Deliver k x y))) (from_one k a bs)
one-deliveries k a [] = All-nil (λ (e : Event). (x : ℕ) × ((y : ℕ) × (e ≡ Deliver k x y)))
one-deliveries k a (b ∷ bs) = go (a == b) (one-deliveries k a bs)
  where
    go : (c : Bool) → All (λ (e : Event). (x : ℕ) × ((y : ℕ) × (e ≡ Deliver k x y))) (from_one k a bs) → All (λ (e : Event). (x : ℕ) × ((y : ℕ) × (e ≡ Deliver k x y))) (cond c [] (Deliver k a b ∷ []) ++ from_one k a bs)
    go true ih = ih
    go false ih = All-cons (λ (e : Event). (x : ℕ) × ((y : ℕ) × (e ≡ Deliver k x y))) (Deliver k a b) (from_one k a bs) (a, (b, refl)) ih

each-deliveries : (k : ℕ) (as_ bs : List ℕ) → All (λ (e : Event). (x : ℕ) × ((y : ℕ) × (e ≡ Deliver k x y))) (from_each k as_ bs)
each-deliveries k [] bs = All-nil (λ (e : Event). (x : ℕ) × ((y : ℕ) × (e ≡ Deliver k x y)))
each-deliveries k (a ∷ rest) bs =
    All-append (λ (e : Event). (x : ℕ) × ((y : ℕ) × (e ≡ Deliver k x y))) (from_one k a bs) (from_each k rest bs) (one-deliveries k a bs) (each-deliveries k rest bs)

pub round-deliveries : (l : Layout) (k : ℕ) → All (λ (e : Event). (x : ℕ) × ((y : ℕ) × (e ≡ Deliver k x y))) (round l k)
round-deliveries l k =
    All-reverse (λ (e : Event). (x : ℕ) × ((y : ℕ) × (e ≡ Deliver k x y))) (from_each k (place_numbers l) (place_numbers l)) (each-deliveries k (place_numbers l) (place_numbers l))

-- rounds until no packet is left are a drain
pub drain-when-none : (l : Layout) (k m : ℕ) (older : List Event) → (schedule l (rounds l k m ++ older)).packets ≡ [] → IsDrain l k older (rounds l k m ++ older)
drain-when-none l k m older h =
    record { count = m; rounds = refl; dry = (none-left (round l k) k (schedule l (rounds l k m ++ older)) (round-deliveries l k) h).0 }

-- rounds with a stop are so many rounds
given-layout : (k : ℕ) (c : Command) (o : Option Seated) (n : NetState) → (commanded k c o n).layout ≡ n.layout
given-layout k c None n = refl
given-layout k c (Some caller) n = refl

worked-layout : (k a b : ℕ) (caller : Seated) (o : Option Packet) (n : NetState) → (works_off k a b caller o n).layout ≡ n.layout
worked-layout k a b caller None n = refl
worked-layout k a b caller (Some q) n = refl

delivered-layout : (k a b : ℕ) (o : Option Seated) (n : NetState) → (delivered k a b o n).layout ≡ n.layout
delivered-layout k a b None n = refl
delivered-layout k a b (Some caller) n = worked-layout k a b caller (first_on a b n.packets) n

shown-layout : (k c : ℕ) (o : Option Seated) (n : NetState) → (shown k c o n).layout ≡ n.layout
shown-layout k c None n = refl
shown-layout k c (Some caller) n = refl

one-layout : (e : Event) (n : NetState) → (happened e n).layout ≡ n.layout
one-layout (Enter actor last) n = refl
one-layout (Act k c) n = given-layout k c (slice_get n.callers k) n
one-layout (Deliver k a b) n = delivered-layout k a b (slice_get n.callers k) n
one-layout (See k c) n = shown-layout k c (slice_get n.callers k) n

pub layout-stays : (es : List Event) (n : NetState) → (after es n).layout ≡ n.layout
layout-stays [] n = refl
layout-stays (e ∷ es) n = one-layout e (after es n) ∙ layout-stays es n

pub rounds-last : (l : Layout) (k m : ℕ) (n : NetState) → after (rounds l k m) (after (round l k) n) ≡ after (rounds l k (suc m)) n
rounds-last l k zero n = ap (λ xs. after xs n) (sym (append-nil (round l k)))
rounds-last l k (suc m) n =
    after-append (round l k) (rounds l k m) (after (round l k) n) ∙ ap (after (round l k)) (rounds-last l k m n) ∙ sym (after-append (round l k) (rounds l k (suc m)) n)

-- The commands of the tasks are those of the events.

round-commands : (l : Layout) (j k : ℕ) (es older : List Event) → All (λ (e : Event). (x : ℕ) × ((y : ℕ) × (e ≡ Deliver k x y))) es → commands_of j (es ++ older) ≡ commands_of j older
round-commands l j k [] older h = refl
round-commands l j k (e ∷ es) older h =
    let IsDelivery : Event → Type 0 = λ (f : Event). (a : ℕ) × ((b : ℕ) × (f ≡ Deliver k a b)) in
    let head = All-head IsDelivery e es h in
    ap (λ f. command_in j f (commands_of j (es ++ older))) head.1.1 ∙ round-commands l j k es older (All-tail IsDelivery e es h)

rounds-commands : (l : Layout) (j k m : ℕ) (older : List Event) → commands_of j (rounds l k m ++ older) ≡ commands_of j older
rounds-commands l j k zero older = refl
rounds-commands l j k (suc m) older =
    ap (commands_of j) (append_assoc (round l k) (rounds l k m) older)
    ∙ round-commands l j k (round l k) (rounds l k m ++ older) (round-deliveries l k) ∙ rounds-commands l j k m older

pub carried-commands : (l : Layout) (j : ℕ) (ts : List Task) (es : List Event) → CarryOut l ts es → commands_of j es ≡ commands_in j ts
carried-commands l j [] es c = ap (commands_of j) c
carried-commands l j (Do e ∷ ts) es c = ap (commands_of j) c.1.0 ∙ ap (command_in j e) (carried-commands l j ts c.0 c.1.1)
carried-commands l j (Drain k ∷ ts) es c =
    ap (commands_of j) (c.1.0).rounds ∙ rounds-commands l j k (c.1.0).count c.0 ∙ carried-commands l j ts c.0 c.1.1
