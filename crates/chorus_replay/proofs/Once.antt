-- The order of a replay leaves one network, also where a clock is worn.
use Rattle.std.proofs.Common.{ℕ, zero, suc, ◌≡◌, ◌<◌, ◌≤◌, ◌+◌, ◌⊎◌, true, List, [], ◌∷◌, ◌++◌, Option, Some, None, is_some, slice_get, Result, Ok, Err, refl, sym, ◌∙◌, ap, subst, append_assoc, inl, inr, arith}
use Rattle.std.proofs.lemmas.List.Elements.{All-nil, All-cons, All-head, All-tail}
use Rattle.chorus_ui.specs.declared.layout.Layout.{Layout}
use Rattle.chorus_ui.specs.declared.limits.TheConstants.{CLOCK_LIMIT}
use Rattle.chorus_ui.specs.Layout.{IsLayout}
use Rattle.chorus_entry.specs.declared.packet.Packet.{Packet}
use Rattle.chorus_calls.specs.Callers.{Seated}
use Rattle.law_network.specs.Left.{journals, packets_left, placed}
use Rattle.law_network.specs.Packets.{first_on}
use Rattle.law_network.specs.Network.{NetState, Event, Deliver, works_off, delivered, happened, after, opening, schedule, round, rounds}
use Rattle.law_network.specs.Calls.{compared_on}
use Rattle.law_network.specs.Schedules.{may_be}
use Rattle.law_network.specs.Tasks.{Task, Do, Drain, IsDrain, CarryOut, AreDeliveries}
use Rattle.law_network.proofs.Draining.Drains.{after-append, carried-out-once}
use Rattle.law_network.proofs.Draining.Emptied.{drains-leave-nothing}
use Rattle.chorus_merge.specs.Merge.{merged}
use Rattle.chorus_scene.specs.Scene.{Scene}
use Rattle.chorus_scene.specs.Grammar.{read_scene}
use Rattle.chorus_show.specs.Report.{report}
use Rattle.chorus_show.specs.declared.status.Status.{Status}
use Rattle.chorus_net.specs.Worn.{compared_by, IsUnworn, AreUnworn, IsInRounds}
use Rattle.chorus_replay.specs.Worn.{AreWornBy, ComesNext}
use Rattle.chorus_replay.specs.Ordered.{CarryAsFar, IsOrdered, StuckUnless}
use Rattle.chorus_replay.specs.Waiting.{Standing, Follows, IsOver, IsOverUnless, opened}
use Rattle.chorus_replay.specs.Laws.{worn_clock, OrderedOnce, ReplaysOnce}
use Rattle.chorus_replay.proofs.Plays.{deliveries, behind}
use Rattle.chorus_scene.proofs.Law.{printed_again}
use Rattle.chorus_report.specs.Awaiting.{stuck_of}
use Rattle.chorus_show.specs.declared.stuck.Stuck.{Stuck}
use Rattle.chorus_show.specs.Report.{report_with}
use Rattle.chorus_net.specs.declared.closed.Closed.{Closed}
use Rattle.chorus_merge.specs.Steps.{journals_of}
use Rattle.chorus_replay.proofs.Determined.{either, ends-there, ordered-behind}
use Rattle.chorus_replay.proofs.Stepping.{may-suffix}

-- Two ends of one list: one is an end of the other.

tail-of : (x y : Event) (xs ys : List Event) → x ∷ xs ≡ y ∷ ys → xs ≡ ys
tail-of x y xs ys e = cc

head-of : (x y : Event) (xs ys : List Event) → x ∷ xs ≡ y ∷ ys → x ≡ y
head-of x y xs ys e = cc

ends : (xs ys a b : List Event) → xs ++ a ≡ ys ++ b → ((z : List Event) × (a ≡ z ++ b)) ⊎ ((z : List Event) × (b ≡ z ++ a))
ends [] ys a b e = inl (ys, e)
ends (x ∷ xs) [] a b e = inr (x ∷ xs, sym e)
ends (x ∷ xs) (y ∷ ys) a b e = ends xs ys a b (tail-of x y (xs ++ a) (ys ++ b) e)

module _ (l : Layout) (k : ℕ) where
  last-rounds : (d i : ℕ) → (z : List Event) × (rounds l k (d + i) ≡ z ++ rounds l k i)
  last-rounds zero i = ([], ap (rounds l k) (none i))
    where
      none : (i : ℕ) → 0 + i ≡ i
      none i = omega arith
  last-rounds (suc d) i =
      let rest = last-rounds d i in
      (round l k ++ rest.0, ap (rounds l k) (more d i) ∙ ap (λ z. round l k ++ z) rest.1 ∙ sym (append_assoc (round l k) rest.0 (rounds l k i)))
    where
      more : (d i : ℕ) → suc d + i ≡ suc (d + i)
      more d i = omega arith

  -- two ends of rounds
  both-ends : (i j : ℕ) (xs ys a b : List Event) → rounds l k i ≡ xs ++ a → rounds l k j ≡ ys ++ b → ((z : List Event) × (a ≡ z ++ b)) ⊎ ((z : List Event) × (b ≡ z ++ a))
  both-ends i j xs ys a b one two =
      let first = last-rounds j i in
      let second = last-rounds i j in
      ends (first.0 ++ xs) (second.0 ++ ys) a b
      (append_assoc first.0 xs a ∙ ap (λ z. first.0 ++ z) (sym one) ∙ sym first.1 ∙ ap (rounds l k) (turned i j) ∙ second.1 ∙ ap (λ z. second.0 ++ z) two ∙ sym (append_assoc second.0 ys b))
    where
      turned : (i j : ℕ) → j + i ≡ i + j
      turned i j = omega arith

-- Worn and not worn.

against : (e : Event) (n : NetState) (clock : ℕ) → compared_by e n ≡ Some clock → CLOCK_LIMIT ≤ clock → IsUnworn (compared_by e n) → ⊥
against e n clock is worn unworn = (let low : clock < CLOCK_LIMIT = subst IsUnworn is unworn in omega (arith, low, worn))

unworn-end : (xs ys : List Event) (n : NetState) → AreUnworn (xs ++ ys) n → AreUnworn ys n
unworn-end [] ys n h = h
unworn-end (x ∷ xs) ys n h = unworn-end xs ys n h.1

unworn-front : (xs ys : List Event) (n : NetState) → AreUnworn (xs ++ ys) n → AreUnworn xs (after ys n)
unworn-front [] ys n h = tt
unworn-front (x ∷ xs) ys n h = (subst (λ m. IsUnworn (compared_by x m)) (after-append xs ys n) h.0, unworn-front xs ys n h.1)

-- an event that is worn is not among events that are not
not-among : (xs ys : List Event) (e : Event) (n : NetState) (clock : ℕ) → compared_by e (after ys n) ≡ Some clock → CLOCK_LIMIT ≤ clock → AreUnworn (xs ++ e ∷ ys) n → ⊥
not-among xs ys e n clock is worn h = against e (after ys n) clock is worn (unworn-end xs (e ∷ ys) n h).0

-- Where no packet is left, or nobody to work it off, deliveries do nothing and compare nothing.

abbrev IsStill : ℕ → NetState → Type 0
IsStill k n = (slice_get n.callers k ≡ None) ⊎ (n.packets ≡ [])

still-off : (k a b : ℕ) (caller : Seated) (n : NetState) (o : Option Packet) → o ≡ None → works_off k a b caller o n ≡ n
still-off k a b caller n o h = ap (λ p. works_off k a b caller p n) h

still-delivery : (k a b : ℕ) (n : NetState) (o : Option Seated) → slice_get n.callers k ≡ o → IsStill k n → delivered k a b o n ≡ n
still-delivery k a b n None found h = refl
still-delivery k a b n (Some caller) found (inl none) = absurd (let both : None ≡ Some caller = sym none ∙ found in cc)
still-delivery k a b n (Some caller) found (inr none) = still-off k a b caller n (first_on a b n.packets) (ap (first_on a b) none)

still-after : (k : ℕ) (es : List Event) (n : NetState) → AreDeliveries k es → IsStill k n → after es n ≡ n
still-after k [] n are h = refl
still-after k (e ∷ es) n are h =
    let IsDelivery : Event → Type 0 = λ (f : Event). (a : ℕ) × ((b : ℕ) × (f ≡ Deliver k a b)) in
    let head = All-head IsDelivery e es are in
    ap (happened e) (still-after k es n (All-tail IsDelivery e es are) h)
    ∙ ap (λ f. happened f n) head.1.1
    ∙ still-delivery k head.0 head.1.0 n (slice_get n.callers k) refl h

still-compares : (k a b : ℕ) (n : NetState) (o : Option Seated) → slice_get n.callers k ≡ o → IsStill k n → compared_on b o (first_on a b n.packets) n ≡ None
still-compares k a b n None found h = refl
still-compares k a b n (Some caller) found (inl none) = absurd (let both : None ≡ Some caller = sym none ∙ found in cc)
still-compares k a b n (Some caller) found (inr none) = ap (λ p. compared_on b (Some caller) p n) (ap (first_on a b) none)

front : (k : ℕ) (xs ys : List Event) → AreDeliveries k (xs ++ ys) → AreDeliveries k xs
front k [] ys are = All-nil (λ (f : Event). (a : ℕ) × ((b : ℕ) × (f ≡ Deliver k a b)))
front k (x ∷ xs) ys are =
    let IsDelivery : Event → Type 0 = λ (f : Event). (a : ℕ) × ((b : ℕ) × (f ≡ Deliver k a b)) in
    All-cons IsDelivery x xs (All-head IsDelivery x (xs ++ ys) are) (front k xs ys (All-tail IsDelivery x (xs ++ ys) are))

module _ (l : Layout) (shape : IsLayout l) where
  next-delivers : (k : ℕ) (next : Event) (done : List Event) → IsInRounds l k next done → AreDeliveries k (next ∷ done)
  next-delivers k next done is = behind k is.later (next ∷ done) (subst (AreDeliveries k) is.are (deliveries l k is.count))

  still-behind : (k : ℕ) (older es : List Event) → may_be l es ≡ true → IsDrain l k older es → IsStill k (schedule l es)
  still-behind k older es may d = go (slice_get (schedule l es).callers k) refl
    where
      go : (o : Option Seated) → slice_get (schedule l es).callers k ≡ o → IsStill k (schedule l es)
      go None e = inl e
      go (Some caller) e = inr (drains-leave-nothing l k older es shape may (ap is_some e) d)

  -- behind a drain no delivery compares a clock
  none-compared : (k : ℕ) (next : Event) (z : List Event) (n : NetState) (clock : ℕ) → IsStill k n → AreDeliveries k (next ∷ z) → compared_by next (after z n) ≡ Some clock → ⊥
  none-compared k next z n clock still are compares =
      let IsDelivery : Event → Type 0 = λ (f : Event). (a : ℕ) × ((b : ℕ) × (f ≡ Deliver k a b)) in
      let head = All-head IsDelivery next z are in
      let same = still-after k z n (All-tail IsDelivery next z are) still in
      let none : compared_by next (after z n) ≡ None =
      ap (compared_by next) same ∙ ap (λ f. compared_by f n) head.1.1 ∙ still-compares k head.0 head.1.0 n (slice_get n.callers k) refl still in
      (let both : None ≡ Some clock = sym none ∙ compares in absurd (cc))

  same-behind : (xs ys : List Event) → schedule l (xs ++ ys) ≡ after xs (schedule l ys)
  same-behind xs ys = after-append xs ys (opening l)

  -- tasks that were carried out without a worn clock do not stop at one
  carry-stop : (ts : List Task) (es fs : List Event) (next : Event) (clock : ℕ) → may_be l es ≡ true → CarryOut l ts es → AreUnworn es (opening l)
      → ComesNext l ts next fs → AreUnworn fs (opening l) → compared_by next (schedule l fs) ≡ Some clock → CLOCK_LIMIT ≤ clock → ⊥
  carry-stop [] es fs next clock may carried unworn comes free is worn = comes
  carry-stop (Do e ∷ ts) es fs next clock may carried unworn (inl now) free is worn =
      let older = carried.0 in
      let same : schedule l fs ≡ schedule l older = carried-out-once l ts fs older now.1 carried.1.1 in
      let all : AreUnworn (e ∷ older) (opening l) = subst (λ z. AreUnworn z (opening l)) carried.1.0 unworn in
      against e (schedule l older) clock (ap (compared_by e) (sym same) ∙ ap (λ f. compared_by f (schedule l fs)) (sym now.0) ∙ is) worn all.0
  carry-stop (Do e ∷ ts) es fs next clock may carried unworn (inr less) free is worn =
      let older = carried.0 in
      let all : AreUnworn (e ∷ older) (opening l) = subst (λ z. AreUnworn z (opening l)) carried.1.0 unworn in
      carry-stop ts older fs next clock (may-suffix l (e ∷ []) older (ap (may_be l) (sym carried.1.0) ∙ may)) carried.1.1 all.1 less free is worn
  carry-stop (Drain k ∷ ts) es fs next clock may carried unworn (inl part) free is worn =
      let older = carried.0 in
      let d = carried.1.0 in
      let done = part.0 in
      let first = part.1.0 in
      let inside = part.1.1.0 in
      let same : schedule l first ≡ schedule l older = carried-out-once l ts first older part.1.1.2 carried.1.1 in
      let m = schedule l older in
      let all : AreUnworn (rounds l k d.count) m = unworn-front (rounds l k d.count) older (opening l) (subst (λ z. AreUnworn z (opening l)) d.rounds unworn) in
      let at : compared_by next (after done m) ≡ Some clock =
      ap (λ (z : NetState). compared_by next (after done z)) (sym same) ∙ ap (compared_by next) (sym (ap (schedule l) part.1.1.1 ∙ same-behind done first)) ∙ is in
      by-ends k older es d may next done clock inside all at worn (both-ends l k inside.count d.count inside.later [] (next ∷ done) (rounds l k d.count) inside.are refl)
    where
      by-ends : (k : ℕ) (older es : List Event) (d : IsDrain l k older es) → may_be l es ≡ true → (next : Event) (done : List Event) (clock : ℕ) → IsInRounds l k next done → AreUnworn (rounds l k d.count) (schedule l older)
          → compared_by next (after done (schedule l older)) ≡ Some clock → CLOCK_LIMIT ≤ clock
          → ((z : List Event) × (next ∷ done ≡ z ++ rounds l k d.count)) ⊎ ((z : List Event) × (rounds l k d.count ≡ z ++ next ∷ done)) → ⊥
      by-ends k older es d may next done clock inside all at worn (inr among) =
          not-among among.0 done next (schedule l older) clock at worn (subst (λ z. AreUnworn z (schedule l older)) among.1 all)
      by-ends k older es d may next done clock inside all at worn (inl ([], e)) =
          not-among [] done next (schedule l older) clock at worn (subst (λ z. AreUnworn z (schedule l older)) (sym e) all)
      by-ends k older es d may next done clock inside all at worn (inl (x ∷ z, e)) =
          let rest : done ≡ z ++ rounds l k d.count = tail-of next x done (z ++ rounds l k d.count) e in
          let here : schedule l es ≡ after (rounds l k d.count) (schedule l older) = ap (schedule l) d.rounds ∙ same-behind (rounds l k d.count) older in
          let behind-it : after done (schedule l older) ≡ after z (schedule l es) =
          ap (λ w. after w (schedule l older)) rest ∙ after-append z (rounds l k d.count) (schedule l older) ∙ ap (after z) (sym here) in
          let are : AreDeliveries k (next ∷ z) =
          front k (next ∷ z) (rounds l k d.count) (subst (AreDeliveries k) (ap (λ w. next ∷ w) rest) (next-delivers k next done inside)) in
          none-compared k next z (schedule l es) clock (still-behind k older es may d) are (ap (compared_by next) (sym behind-it) ∙ at)
  carry-stop (Drain k ∷ ts) es fs next clock may carried unworn (inr less) free is worn =
      let older = carried.0 in
      let d = carried.1.0 in
      carry-stop ts older fs next clock (may-suffix l (rounds l k d.count) older (ap (may_be l) (sym d.rounds) ∙ may)) carried.1.1
      (unworn-end (rounds l k d.count) older (opening l) (subst (λ z. AreUnworn z (opening l)) d.rounds unworn)) less free is worn

  -- one event is worn first, and behind the same events
  one-next : (m : NetState) (next other : Event) (done front : List Event) (clock time : ℕ) → AreUnworn done m → AreUnworn front m
      → compared_by next (after done m) ≡ Some clock → CLOCK_LIMIT ≤ clock → compared_by other (after front m) ≡ Some time → CLOCK_LIMIT ≤ time
      → ((z : List Event) × (next ∷ done ≡ z ++ other ∷ front)) ⊎ ((z : List Event) × (other ∷ front ≡ z ++ next ∷ done)) → (next ≡ other) × (done ≡ front)
  one-next m next other done front clock time free loose is worn at tired (inl ([], e)) = (head-of next other done front e, tail-of next other done front e)
  one-next m next other done front clock time free loose is worn at tired (inl (x ∷ z, e)) =
      absurd (not-among z front other m time at tired (subst (λ w. AreUnworn w m) (tail-of next x done (z ++ other ∷ front) e) free))
  one-next m next other done front clock time free loose is worn at tired (inr ([], e)) = (sym (head-of other next front done e), sym (tail-of other next front done e))
  one-next m next other done front clock time free loose is worn at tired (inr (x ∷ z, e)) =
      absurd (not-among z done next m clock is worn (subst (λ w. AreUnworn w m) (tail-of other x front (z ++ next ∷ done) e) loose))

  -- so all stops are one
  stop-stop : (ts : List Task) (es fs : List Event) (next other : Event) (clock time : ℕ) → may_be l es ≡ true → may_be l fs ≡ true → ComesNext l ts next es → ComesNext l ts other fs
      → AreUnworn es (opening l) → AreUnworn fs (opening l) → compared_by next (schedule l es) ≡ Some clock → CLOCK_LIMIT ≤ clock → compared_by other (schedule l fs) ≡ Some time → CLOCK_LIMIT ≤ time
      → (next ≡ other) × (schedule l es ≡ schedule l fs)
  stop-stop [] es fs next other clock time may can comes goes free loose is worn at tired = absurd comes
  stop-stop (Do e ∷ ts) es fs next other clock time may can (inl now) (inl then) free loose is worn at tired = (now.0 ∙ sym then.0, carried-out-once l ts es fs now.1 then.1)
  stop-stop (Do e ∷ ts) es fs next other clock time may can (inl now) (inr less) free loose is worn at tired = absurd (carry-stop ts es fs other time may now.1 free less loose at tired)
  stop-stop (Do e ∷ ts) es fs next other clock time may can (inr less) (inl now) free loose is worn at tired = absurd (carry-stop ts fs es next clock can now.1 loose less free is worn)
  stop-stop (Do e ∷ ts) es fs next other clock time may can (inr less) (inr fewer) free loose is worn at tired = stop-stop ts es fs next other clock time may can less fewer free loose is worn at tired
  stop-stop (Drain k ∷ ts) es fs next other clock time may can (inl part) (inl piece) free loose is worn at tired =
      let older = part.1.0 in
      let elder = piece.1.0 in
      let inside = part.1.1.0 in
      let within = piece.1.1.0 in
      let same : schedule l older ≡ schedule l elder = carried-out-once l ts older elder part.1.1.2 piece.1.1.2 in
      let m = schedule l older in
      let here : schedule l es ≡ after part.0 m = ap (schedule l) part.1.1.1 ∙ same-behind part.0 older in
      let there : schedule l fs ≡ after piece.0 m = ap (schedule l) piece.1.1.1 ∙ same-behind piece.0 elder ∙ ap (after piece.0) (sym same) in
      let one = one-next m next other part.0 piece.0 clock time
      (unworn-front part.0 older (opening l) (subst (λ z. AreUnworn z (opening l)) part.1.1.1 free))
      (subst (λ (z : NetState). AreUnworn piece.0 z) (sym same) (unworn-front piece.0 elder (opening l) (subst (λ z. AreUnworn z (opening l)) piece.1.1.1 loose)))
      (ap (compared_by next) (sym here) ∙ is) worn (ap (compared_by other) (sym there) ∙ at) tired
      (both-ends l k inside.count within.count inside.later within.later (next ∷ part.0) (other ∷ piece.0) inside.are within.are) in
      (one.0, here ∙ ap (λ w. after w m) one.1 ∙ sym there)
  stop-stop (Drain k ∷ ts) es fs next other clock time may can (inl part) (inr less) free loose is worn at tired =
      absurd (carry-stop ts part.1.0 fs other time (may-suffix l part.0 part.1.0 (ap (may_be l) (sym part.1.1.1) ∙ may)) part.1.1.2
      (unworn-end part.0 part.1.0 (opening l) (subst (λ z. AreUnworn z (opening l)) part.1.1.1 free)) less loose at tired)
  stop-stop (Drain k ∷ ts) es fs next other clock time may can (inr less) (inl part) free loose is worn at tired =
      absurd (carry-stop ts part.1.0 es next clock (may-suffix l part.0 part.1.0 (ap (may_be l) (sym part.1.1.1) ∙ can)) part.1.1.2
      (unworn-end part.0 part.1.0 (opening l) (subst (λ z. AreUnworn z (opening l)) part.1.1.1 loose)) less free is worn)
  stop-stop (Drain k ∷ ts) es fs next other clock time may can (inr less) (inr fewer) free loose is worn at tired = stop-stop ts es fs next other clock time may can less fewer free loose is worn at tired

-- The outcome.

pub data Ends (l : Layout) (ts : List Task) (es : List Event) : Option ℕ → Type 0 where
  All-done : CarryOut l ts es → Ends l ts es None
  Worn-at : (clock : ℕ) → AreWornBy l ts es clock → Ends l ts es (Some clock)

pub ends-as : (l : Layout) (ts : List Task) (s : Status) (es : List Event) → CarryAsFar s l ts es → Ends l ts es (worn_clock s)
ends-as l ts Status.Done es c = All-done c
ends-as l ts Status.Usage es c = All-done c
ends-as l ts (Status.Scenario line reason) es c = All-done c
ends-as l ts Status.ReadFault es c = All-done c
ends-as l ts Status.WriteFault es c = All-done c
ends-as l ts Status.Memory es c = All-done c
ends-as l ts (Status.Worn clock) es c = Worn-at clock c

pub one-end : (l : Layout) (ts : List Task) (es fs : List Event) (o p : Option ℕ) → IsLayout l → may_be l es ≡ true → may_be l fs ≡ true → AreUnworn es (opening l) → AreUnworn fs (opening l)
    → Ends l ts es o → Ends l ts fs p → (o ≡ p) × (schedule l es ≡ schedule l fs)
one-end l ts es fs _ _ shape may can free loose (All-done c) (All-done d) = (refl, carried-out-once l ts es fs c d)
one-end l ts es fs _ _ shape may can free loose (All-done c) (Worn-at time w) = absurd (carry-stop l shape ts es fs w.next time may c free w.comes loose w.is w.worn)
one-end l ts es fs _ _ shape may can free loose (Worn-at clock v) (All-done d) = absurd (carry-stop l shape ts fs es v.next clock can d loose v.comes free v.is v.worn)
one-end l ts es fs _ _ shape may can free loose (Worn-at clock v) (Worn-at time w) =
    let one = stop-stop l shape ts es fs v.next w.next clock time may can v.comes w.comes free loose v.is v.worn w.is w.worn in
    (sym v.is ∙ ap (compared_by v.next) one.1 ∙ ap (λ e. compared_by e (schedule l fs)) one.0 ∙ w.is, one.1)

pub ordered-once : OrderedOnce
ordered-once l ts s t one other shape a b =
    let same = one-end l ts a.events b.events (worn_clock s) (worn_clock t) shape a.may b.may a.unworn b.unworn (ends-as l ts s a.events a.carried) (ends-as l ts t b.events b.carried) in (
      same.0,
      record {
        journals = (a.closes).left.journals ∙ ap journals same.1 ∙ sym (b.closes).left.journals;
        rest = (a.closes).left.rest ∙ ap packets_left same.1 ∙ sym (b.closes).left.rest;
        ports = (a.closes).left.ports ∙ ap placed same.1 ∙ sym (b.closes).left.ports;
      },
    )

-- the bytes give one scenario, and its tasks leave one outcome

one-scene : (x y : Scene) (r : Result Scene (ℕ × ℕ)) → r ≡ Ok x → r ≡ Ok y → x ≡ y
one-scene x y (Ok z) a b = let first : z ≡ x = cc in let second : z ≡ y = cc in sym first ∙ second
one-scene x y (Err e) a b = absurd (cc)

-- of two replays one came as far as the other, or farther, and both closed what the tasks of that one leave
common : (c : Scene) (u v : Standing) (s t : Status) (one other : Closed) → Follows c (opened c) u → Follows c (opened c) v → IsOverUnless s c u → IsOverUnless t c v → IsOrdered c.layout u.tasks s one → IsOrdered c.layout v.tasks t other
    → (ts : List Task) × (IsOrdered c.layout ts s one × IsOrdered c.layout ts t other)
common c u v s t one other f g over ended a b = by (either c (opened c) u v f g)
  where
    by : Follows c u v ⊎ Follows c v u → (ts : List Task) × (IsOrdered c.layout ts s one × IsOrdered c.layout ts t other)
    by (inl h) = (v.tasks, (ordered-behind c u v s one h over a, b))
    by (inr h) = (u.tasks, (a, ordered-behind c v u t other h ended b))

-- those that are over are one
none-worn : (s : Status) (c : Scene) (u : Standing) → worn_clock s ≡ None → IsOverUnless s c u → IsOver c u
none-worn Status.Done c u e h = h
none-worn Status.Usage c u e h = h
none-worn (Status.Scenario line reason) c u e h = h
none-worn Status.ReadFault c u e h = h
none-worn Status.WriteFault c u e h = h
none-worn Status.Memory c u e h = h
none-worn (Status.Worn clock) c u e h = absurd (cc)

none-stuck : (s : Status) (c : Scene) (done : List ℕ) (stuck : List Stuck) → worn_clock s ≡ None → StuckUnless s c done stuck → stuck ≡ stuck_of c done
none-stuck Status.Done c done stuck e h = h
none-stuck Status.Usage c done stuck e h = h
none-stuck (Status.Scenario line reason) c done stuck e h = h
none-stuck Status.ReadFault c done stuck e h = h
none-stuck Status.WriteFault c done stuck e h = h
none-stuck Status.Memory c done stuck e h = h
none-stuck (Status.Worn clock) c done stuck e h = absurd (cc)

over-once : (c : Scene) (u v : Standing) → Follows c (opened c) u → Follows c (opened c) v → IsOver c u → IsOver c v → u ≡ v
over-once c u v f g over ended = by (either c (opened c) u v f g)
  where
    by : Follows c u v ⊎ Follows c v u → u ≡ v
    by (inl h) = ends-there c u v over h
    by (inr h) = sym (ends-there c v u ended h)

pub replays-once : ReplaysOnce
replays-once l input s t stuck others one other shape a b =
    let first = a.runs.given in
    let second = b.runs.given in
    let c = a.runs.scene in
    let bytes : first.bytes ≡ second.bytes = first.read ∙ sym second.read in
    let same : b.runs.scene ≡ c = sym (one-scene c b.runs.scene (read_scene l first.bytes) first.given (ap (read_scene l) bytes ∙ second.given)) in
    let layout : c.layout ≡ l = (printed_again l first.bytes c first.given).0 in
    let u = a.standing in
    let v = b.standing in
    let g = subst (λ d. Follows d (opened d) v) same b.follows in
    let ended = subst (λ d. IsOverUnless t d v) same b.over in
    let both = common c u v s t one other a.follows g a.over ended (subst (λ m. IsOrdered m u.tasks s one) (sym layout) a.ordered) (subst (λ m. IsOrdered m v.tasks t other) (sym layout) b.ordered) in
    let outcome = ordered-once c.layout both.0 s t one other (subst IsLayout (sym layout) shape) both.1.0 both.1.1 in
    let merges : merged (journals_of one.journals.items) ≡ merged (journals_of other.journals.items) = ap merged (outcome.1).journals in
    record {
      worn = outcome.0;
      closed = outcome.1;
      text = ap report merges;
      written = λ none.
          (let here = over-once c u v a.follows g (none-worn s c u none a.over) (none-worn t c v (sym outcome.0 ∙ none) ended) in
          let lines : stuck ≡ others =
          none-stuck s c a.runs.done stuck none a.stuck_is ∙ ap (stuck_of c) (a.done ∙ ap (λ (z : Standing). z.done) here ∙ sym b.done)
          ∙ sym (none-stuck t c b.runs.done others (sym outcome.0 ∙ none) (subst (λ d. StuckUnless t d b.runs.done others) same b.stuck_is)) in
          ap (λ z. report_with z (merged (journals_of one.journals.items))) lines ∙ ap (report_with others) merges);
    }
