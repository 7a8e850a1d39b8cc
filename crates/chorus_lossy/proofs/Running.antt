-- How the code's values go from moment to moment.
use Rattle.std.proofs.Common.{◌≡◌, ◌≢◌, ℕ, zero, suc, ◌+◌, ◌-◌, ◌%◌, ◌<◌, ◌≤◌, true, false, List, [], ◌∷◌, ◌++◌, length, min, reverse, Option, None, Some, is_some, refl, sym, ◌∙◌, ap, ap₂, subst, arith, add-one, append-nil, get_or, take, drop, length-append, length-drop}
use Rattle.std.specs.Option.{option_to_list}
use Rattle.std.specs.Prelude.{◌==◌, OnErr, OnOk, Result, Ok, Err}
use Rattle.std.specs.List.{prefix_len, slice_get}
use Rattle.std.proofs.lemmas.Bool.{cond-false, cond-true, eq-eqb, le-ltb, ne_eqb}
use Rattle.std.proofs.lemmas.List.{reverse-append, take_min}
use Rattle.std.proofs.lemmas.Option.{none-some}
use Rattle.chorus_transport.specs.declared.chunk.Chunk.{Chunk}
use Rattle.chorus_transport.specs.Sending.{Sending, next_number, after_put, after_ack, emitted}
use Rattle.chorus_transport.specs.Receiving.{Receiving, after_arrival, next_chunk, passed, after_next, ack_of}
use Rattle.chorus_draw.specs.Draws.{next_state, number_of}
use Rattle.chorus_lossy.specs.declared.rounds.Run.{Run}
use Rattle.chorus_lossy.specs.Line.{Ends, Event, Put, Arrive, Deliver, Hear, ends, chunk_at}
use Rattle.chorus_lossy.specs.Rounds.{Moment, arrived, is_lost, room, put_next, puts, filled, sent, sent_if_kept, emission, emissions, all_sent, releases, released, given, deliveries, all_delivered, heard, acknowledged}
use Rattle.chorus_lossy.specs.Running.{at, IsAt, Grows, IsBetween}
use Rattle.chorus_lossy.proofs.Growth.{grows-same, grows-then, grows-event, grows-puts, grows-emissions, grows-emission, grows-releases, grows-deliveries, grows-given}
use Rattle.chorus_lossy.proofs.Soundness.{prefix_len-slid}

pub at-from : (m : Moment) (run : Run) (s : Sending) (r : Receiving) (events : List Event) → m ≡ at run s r events → IsAt m run s r
at-from m run s r events e = e ∙ ap (at run s r) (sym (ap (λ x. x.events) e))

pub at-ends : (m : Moment) (run : Run) (s : Sending) (r : Receiving) → IsAt m run s r → ends s r ≡ m.ends
at-ends m run s r e = sym (ap (λ x. x.ends) e)

-- the values are those of a moment between two
pub between-at : {m later : Moment} (mid : Moment) (run : Run) (s : Sending) (r : Receiving) → Grows m mid → Grows mid later → IsAt mid run s r → IsBetween m later (ends s r)
between-at {m} {later} mid run s r from to e = record { mid = mid; from = from; to = to; ends = at-ends mid run s r e }

-- what holds anyhow holds of each error
pub on_err : {T E P : Type 0} (r : Result T E) → P → OnErr r P
on_err (Ok x) p = tt
on_err (Err e) p = p

pub on_ok : {T E P : Type 0} (r : Result T E) → P → OnOk r P
on_ok (Ok x) p = p
on_ok (Err e) p = tt

-- nothing happened to the ends in an emission
pub unchanged : (n i : ℕ) (m : Moment) (run : Run) (s : Sending) (r now : Receiving) → IsAt m run s r → now ≡ r → IsBetween m (emission n i m) (ends s now)
unchanged n i m run s r now e same =
    subst (λ x. IsBetween m (emission n i m) (ends s x)) (sym same)
    (between-at m run s r (grows-same m m refl refl) (grows-emission n i m) e)

-- Chunks are put.

pub puts_next : (bytes : List ℕ) (k : ℕ) (m : Moment) (run : Run) (s after : Sending) (r : Receiving) → IsAt (puts bytes k m) run s r → after ≡ after_put s (chunk_at bytes (next_number s)) → IsAt (puts bytes (k + 1) m) run after r
puts_next bytes k m run s after r e put =
    let event = Put (chunk_at bytes (next_number s)) in
    let events = event ∷ (puts bytes k m).events in
    rw add-one (at-from _ run after r events (ap (put_next bytes) e ∙ ap (λ x. at run x r events) (sym put)))

pub puts_all : (bytes : List ℕ) (k : ℕ) (m : Moment) (run : Run) (s : Sending) (r : Receiving) → IsAt m run s r → k ≡ room bytes s → puts bytes k m ≡ filled bytes m
unfolding filled
puts_all bytes k m run s r e is =
    ap (λ j. puts bytes j m) (is ∙ ap (λ x. room bytes x.ends.sender) (sym e))

grows-puts-more : (bytes : List ℕ) (m : Moment) (k n : ℕ) → Grows (puts bytes k m) (puts bytes (n + k) m)
grows-puts-more bytes m k zero = let e : 0 + k ≡ k = omega arith in rw e (grows-same _ _ refl refl)
grows-puts-more bytes m k (suc n) =
    let e : suc n + k ≡ suc (n + k) = omega arith in
    rw e (grows-then (grows-puts-more bytes m k n) (grows-event _ (puts bytes (n + k) m)))

pub puts_between : (bytes : List ℕ) (k n : ℕ) (m : Moment) (run : Run) (s old : Sending) (r : Receiving) → IsAt m run old r → n ≡ room bytes old → k ≤ n → IsAt (puts bytes k m) run s r → IsBetween m (filled bytes m) (ends s r)
puts_between bytes k n m run s old r begun is le e =
    let more : n - k + k ≡ n = omega arith in
    between-at (puts bytes k m) run s r (grows-puts bytes k m)
    (subst (Grows (puts bytes k m)) (ap (λ j. puts bytes j m) more ∙ puts_all bytes n m run old r begun is) (grows-puts-more bytes m k (n - k)))
    e

-- A chunk is emitted.

pub sent_as : (n i fate : ℕ) (m : Moment) (run drawn : Run) (s : Sending) (r : Receiving) (chunk : Chunk) → IsAt m run s r → emitted s i ≡ Some chunk → drawn ≡ record run { state = next_state run.state; emitted = run.emitted + 1 } → fate ≡ number_of drawn.state % 4 → emission n i m ≡ sent n fate i chunk (at drawn s r m.events)
unfolding emission
sent_as n i fate m run drawn s r chunk e kept is draw =
    let next : Run = record run { state = next_state run.state; emitted = run.emitted + 1 } in
    let same : number_of next.state % 4 ≡ fate = ap (λ (x : Run). number_of x.state % 4) (sym is) ∙ sym draw in
    ap (emission n i) e
    ∙ ap (λ o. sent_if_kept n (number_of next.state % 4) i o (at next s r m.events)) kept
    ∙ ap (λ f. sent n f i chunk (at next s r m.events)) same
    ∙ ap (λ x. sent n fate i chunk (at x s r m.events)) (sym is)

sent_lost : (n i fate : ℕ) (whole : Moment) (run : Run) (s : Sending) (r : Receiving) (chunk : Chunk) (events : List Event) → whole ≡ sent n fate i chunk (at run s r events) → is_lost n fate ≡ true → IsAt whole (record run { lost = run.lost + 1 }) s r
sent_lost n i fate whole run s r chunk events e lost =
    at-from whole (record run { lost = run.lost + 1 }) s r events (e ∙ cond-true (is_lost n fate) _ _ lost)

got_some : (xs : List Chunk) (k : ℕ) → k < length xs → (c : Chunk) × (slice_get xs k ≡ Some c)
got_some [] k less = absurd (omega arith)
got_some (x ∷ xs) zero less = (x, refl)
got_some (x ∷ xs) (suc k) less = got_some xs k (omega arith)

-- the sender keeps the chunk, which is not looked at where it is lost
pub lost_unseen : (n i fate : ℕ) (m : Moment) (run drawn : Run) (s : Sending) (r : Receiving) → IsAt m run s r → s.base ≤ i → i < s.base + length s.kept → drawn ≡ record run { state = next_state run.state; emitted = run.emitted + 1 } → fate ≡ number_of drawn.state % 4 → is_lost n fate ≡ true → IsAt (emission n i m) (record drawn { lost = drawn.lost + 1 }) s r
lost_unseen n i fate m run drawn s r e from below is draw lost =
    let got = got_some s.kept (i - s.base) (omega arith) in
    let kept : emitted s i ≡ Some got.0 = cond-false _ None _ (le-ltb i s.base from) ∙ got.1 in
    sent_lost n i fate (emission n i m) drawn s r got.0 m.events (sent_as n i fate m run drawn s r got.0 e kept is draw) lost

pub sent_twice : (n i fate : ℕ) (whole : Moment) (run : Run) (s : Sending) (r after : Receiving) (chunk : Chunk) (events : List Event) → whole ≡ sent n fate i chunk (at run s r events) → is_lost n fate ≡ false → fate ≡ 1 → after ≡ after_arrival (after_arrival r i chunk) i chunk → IsAt whole run s after
sent_twice n i fate whole run s r after chunk events e safe one is =
    let all = Arrive i chunk ∷ Arrive i chunk ∷ events in
    at-from whole run s after all (e ∙ cond-false (is_lost n fate) _ _ safe ∙ cond-true (fate == 1) _ _ (eq-eqb fate 1 one) ∙ ap (λ x. at run s x all) (sym is))

pub sent_held : (n i fate : ℕ) (whole : Moment) (run after : Run) (s : Sending) (r : Receiving) (chunk : Chunk) (events : List Event) → whole ≡ sent n fate i chunk (at run s r events) → is_lost n fate ≡ false → fate ≡ 2 → after ≡ record run { held = after.held } → after.held.items ≡ run.held.items ++ (i, chunk) ∷ [] → IsAt whole after s r
sent_held n i fate whole run after s r chunk events e safe two same is =
    let other : fate ≢ 1 = λ (one : fate ≡ 1). omega arith in
    let items = ap reverse is ∙ reverse-append run.held.items ((i, chunk) ∷ []) in
    let now : IsAt whole (record run { held = after.held }) s r =
    at-from whole (record run { held = after.held }) s r events
    (e ∙ cond-false (is_lost n fate) _ _ safe ∙ cond-false (fate == 1) _ _ (ne_eqb fate 1 other) ∙ cond-true (fate == 2) _ _ (eq-eqb fate 2 two)
    ∙ ap (λ h. record (at run s r events) { held = h }) (sym items)) in
    subst (λ x. IsAt whole x s r) (sym same) now

pub sent_once : (n i fate : ℕ) (whole : Moment) (run : Run) (s : Sending) (r after : Receiving) (chunk : Chunk) (events : List Event) → whole ≡ sent n fate i chunk (at run s r events) → is_lost n fate ≡ false → fate ≢ 1 → fate ≢ 2 → after ≡ after_arrival r i chunk → IsAt whole run s after
sent_once n i fate whole run s r after chunk events e safe one two is =
    let all = Arrive i chunk ∷ events in
    at-from whole run s after all (e ∙ cond-false (is_lost n fate) _ _ safe ∙ cond-false (fate == 1) _ _ (ne_eqb fate 1 one) ∙ cond-false (fate == 2) _ _ (ne_eqb fate 2 two) ∙ ap (λ x. at run s x all) (sym is))

pub emissions_next : (n from k : ℕ) (m : Moment) (run : Run) (s : Sending) (r : Receiving) → IsAt (emission n (from + k) (emissions n from k m)) run s r → IsAt (emissions n from (k + 1) m) run s r
emissions_next n from k m run s r e = rw add-one e

pub emissions_all : (n k : ℕ) (m : Moment) (run : Run) (s : Sending) (r : Receiving) → IsAt m run s r → k ≡ length s.kept → emissions n s.base k m ≡ all_sent n m
unfolding all_sent
emissions_all n k m run s r e is =
    let sender : s ≡ m.ends.sender = sym (ap (λ x. x.ends.sender) e) in
    ap (λ j. emissions n s.base j m) is ∙ ap (λ (x : Sending). emissions n x.base (length x.kept) m) sender

grows-emissions-more : (n from : ℕ) (m : Moment) (k j : ℕ) → Grows (emissions n from k m) (emissions n from (j + k) m)
grows-emissions-more n from m k zero = let e : 0 + k ≡ k = omega arith in rw e (grows-same _ _ refl refl)
grows-emissions-more n from m k (suc j) =
    let e : suc j + k ≡ suc (j + k) = omega arith in
    rw e (grows-then (grows-emissions-more n from m k j) (grows-emission n (from + (j + k)) (emissions n from (j + k) m)))

-- the emission behind the first k failed in its midst
pub emissions_between : (n k : ℕ) (m : Moment) (run : Run) (s : Sending) (r : Receiving) (e : Ends) → IsAt m run s r → k < length s.kept → IsBetween (emissions n s.base k m) (emission n (s.base + k) (emissions n s.base k m)) e → IsBetween m (all_sent n m) e
emissions_between n k m run s r e begun less i =
    let len = length s.kept in
    let more : len - suc k + suc k ≡ len = omega arith in
    record {
      mid = i.mid;
      from = grows-then (grows-emissions n s.base k m) i.from;
      to = grows-then i.to (subst (Grows (emissions n s.base (suc k) m)) (ap (λ j. emissions n s.base j m) more ∙ emissions_all n len m run s r begun refl) (grows-emissions-more n s.base m (suc k) (len - suc k)));
      ends = i.ends;
    }

-- What is held arrives.

-- so far, and what is left
pub record AreReleasing (m : Moment) (run : Run) (s : Sending) (r : Receiving) : Type 0 where
  pub mid : Moment
  pub from : Grows m mid
  pub now : IsAt mid run s r
  pub left : releases mid.held mid ≡ releases m.held m

pub releasing_begins : (m : Moment) (run : Run) (s : Sending) (r : Receiving) → IsAt m run s r → AreReleasing m run s r
releasing_begins m run s r e = record { mid = m; from = grows-same m m refl refl; now = e; left = refl }

pub releasing_next : (m : Moment) (run after : Run) (s : Sending) (r later : Receiving) (i : ℕ) (chunk : Chunk) → AreReleasing m run s r → after ≡ record run { held = after.held } → run.held.items ≡ after.held.items ++ (i, chunk) ∷ [] → later ≡ after_arrival r i chunk → AreReleasing m after s later
releasing_next m run after s r later i chunk h same is arrives =
    let held : h.mid.held ≡ (i, chunk) ∷ reverse after.held.items = ap (λ x. x.held) h.now ∙ ap reverse is ∙ reverse-append after.held.items ((i, chunk) ∷ []) in
    let rest = reverse after.held.items in
    let next : Moment = arrived i chunk (record h.mid { held = rest }) in
    let events = Arrive i chunk ∷ h.mid.events in
    let now : next ≡ at (record run { held = after.held }) s (after_arrival r i chunk) events = ap (λ x. arrived i chunk (record x { held = rest })) h.now in
    record {
      mid = next;
      from = grows-then h.from (grows-then (grows-same h.mid (record h.mid { held = rest }) refl refl) (grows-event (Arrive i chunk) (record h.mid { held = rest })));
      now = at-from next after s later events (now ∙ ap₂ (λ x y. at x s y events) (sym same) (sym arrives));
      left = ap (λ l. releases l h.mid) (sym held) ∙ h.left;
    }

pub released_all : (m : Moment) (run : Run) (s : Sending) (r : Receiving) → AreReleasing m run s r → run.held.items ≡ [] → IsAt (released m) run s r
unfolding released
released_all m run s r h none =
    let held : h.mid.held ≡ [] = ap (λ x. x.held) h.now ∙ ap reverse none in
    let all : h.mid ≡ releases m.held m = ap (λ l. releases l h.mid) (sym held) ∙ h.left in
    subst (λ x. IsAt x run s r) all h.now

pub released_between : (m : Moment) (run : Run) (s : Sending) (r : Receiving) → AreReleasing m run s r → IsBetween m (released m) (ends s r)
unfolding released
released_between m run s r h =
    between-at h.mid run s r h.from (subst (Grows h.mid) h.left (grows-releases h.mid.held h.mid)) h.now

-- All that the receiver gives is delivered.

abbrev ready : Moment → ℕ
ready m = prefix_len is_some m.ends.receiver.ahead

pub record AreDelivering (m : Moment) (run : Run) (s : Sending) (r : Receiving) : Type 0 where
  pub mid : Moment
  pub from : Grows m mid
  pub now : IsAt mid run s r
  pub left : deliveries (ready mid) mid ≡ deliveries (ready m) m

pub delivering_begins : (m : Moment) (run : Run) (s : Sending) (r : Receiving) → IsAt m run s r → AreDelivering m run s r
delivering_begins m run s r e = record { mid = m; from = grows-same m m refl refl; now = e; left = refl }

-- the receiver gave a chunk
taken : (m : Moment) (run : Run) (s : Sending) (r : Receiving) (chunk : Chunk) → IsAt m run s r → next_chunk r ≡ Some chunk → deliveries (ready m) m ≡ deliveries (ready (given (Some chunk) m)) (given (Some chunk) m)
taken m run s r chunk e some =
    let here : next_chunk m.ends.receiver ≡ Some chunk = ap (λ x. next_chunk x.ends.receiver) e ∙ some in
    let next : Moment = given (Some chunk) m in
    let slid : ready next ≡ prefix_len is_some (passed m.ends.receiver (Some chunk)).ahead = ap (λ o. prefix_len is_some (passed m.ends.receiver o).ahead) here in
    let more : ready m ≡ suc (ready next) = prefix_len-slid m.ends.receiver.ahead chunk here ∙ ap suc (sym slid) in
    ap (λ k. deliveries k m) more ∙ ap (λ o. deliveries (ready next) (given o m)) here

pub delivering_next : (m : Moment) (run after : Run) (s : Sending) (r later : Receiving) (chunk : Chunk) → AreDelivering m run s r → next_chunk r ≡ Some chunk → later ≡ after_next r → after ≡ record run { delivered = after.delivered } → after.delivered.items ≡ run.delivered.items ++ chunk → AreDelivering m after s later
delivering_next m run after s r later chunk h some is same grown =
    let next : Moment = given (Some chunk) h.mid in
    let events = Deliver ∷ h.mid.events in
    let now : next ≡ record (at run s (after_next r) events) { delivered = run.delivered.items ++ chunk } = ap (given (Some chunk)) h.now in
    let then : next ≡ at (record run { delivered = after.delivered }) s (after_next r) events = now ∙ ap (λ d. record (at run s (after_next r) events) { delivered = d }) (sym grown) in
    record {
      mid = next;
      from = grows-then h.from (grows-given (Some chunk) h.mid);
      now = at-from next after s later events (then ∙ ap₂ (λ x y. at x s y events) (sym same) (sym is));
      left = sym (taken h.mid run s r chunk h.now some) ∙ h.left;
    }

no_first : (ahead : List (Option Chunk)) → get_or ahead 0 None ≡ None → prefix_len is_some ahead ≡ 0
no_first [] none = refl
no_first (None ∷ xs) none = refl
no_first (Some x ∷ xs) none = absurd (none-some x (sym none))

none_ready : (r : Receiving) → next_chunk r ≡ None → prefix_len is_some r.ahead ≡ 0
none_ready r none = no_first r.ahead none

pub delivered_all : (m : Moment) (run : Run) (s : Sending) (r later : Receiving) → AreDelivering m run s r → next_chunk r ≡ None → later ≡ after_next r → IsAt (all_delivered m) run s later
unfolding all_delivered
delivered_all m run s r later h none is =
    let empty : ready h.mid ≡ 0 = ap ready h.now ∙ none_ready r none in
    let all : h.mid ≡ deliveries (ready m) m = ap (λ k. deliveries k h.mid) (sym empty) ∙ h.left in
    let same : later ≡ r = is ∙ ap (passed r) none in
    subst (λ x. IsAt x run s later) all (subst (λ x. IsAt h.mid run s x) (sym same) h.now)

-- the receiver gave a chunk, for which there was no memory
pub delivered_between : (m : Moment) (run : Run) (s : Sending) (r later : Receiving) (chunk : Chunk) → AreDelivering m run s r → next_chunk r ≡ Some chunk → later ≡ after_next r → IsBetween m (all_delivered m) (ends s later)
unfolding all_delivered
delivered_between m run s r later chunk h some is =
    let next : Moment = given (Some chunk) h.mid in
    let now : next.ends ≡ ends s (after_next r) = ap (λ x. (given (Some chunk) x).ends) h.now in
    record {
      mid = next;
      from = grows-then h.from (grows-given (Some chunk) h.mid);
      to = subst (Grows next) (sym (taken h.mid run s r chunk h.now some) ∙ h.left) (grows-deliveries (ready next) next);
      ends = ap (ends s) is ∙ sym now;
    }

-- The acknowledgement.

heard_as : (n fate : ℕ) (m : Moment) (run drawn : Run) (s : Sending) (r : Receiving) → IsAt m run s r → drawn ≡ record run { state = next_state run.state } → fate ≡ number_of drawn.state % 4 → acknowledged n m ≡ heard n fate (at drawn s r m.events)
unfolding acknowledged
heard_as n fate m run drawn s r e is draw =
    let next : Run = record run { state = next_state run.state } in
    let same : number_of next.state % 4 ≡ fate = ap (λ (x : Run). number_of x.state % 4) (sym is) ∙ sym draw in
    ap (acknowledged n) e
    ∙ ap (λ f. heard n f (at next s r m.events)) same
    ∙ ap (λ x. heard n fate (at x s r m.events)) (sym is)

pub ack_lost : (n fate : ℕ) (m : Moment) (run drawn : Run) (s : Sending) (r : Receiving) → IsAt m run s r → drawn ≡ record run { state = next_state run.state } → fate ≡ number_of drawn.state % 4 → is_lost n fate ≡ true → IsAt (acknowledged n m) (record drawn { lost = drawn.lost + 1 }) s r
ack_lost n fate m run drawn s r e is draw lost =
    at-from (acknowledged n m) (record drawn { lost = drawn.lost + 1 }) s r m.events (heard_as n fate m run drawn s r e is draw ∙ cond-true (is_lost n fate) _ _ lost)

pub ack_heard : (n fate : ℕ) (m : Moment) (run drawn : Run) (s after : Sending) (r : Receiving) → IsAt m run s r → drawn ≡ record run { state = next_state run.state } → fate ≡ number_of drawn.state % 4 → is_lost n fate ≡ false → after ≡ after_ack s (ack_of r) → IsAt (acknowledged n m) drawn after r
ack_heard n fate m run drawn s after r e is draw safe acks =
    let events = Hear (ack_of r) ∷ m.events in
    at-from (acknowledged n m) drawn after r events (heard_as n fate m run drawn s r e is draw ∙ cond-false (is_lost n fate) _ _ safe ∙ ap (λ x. at drawn x r events) (sym acks))

-- Two arrivals, of which the second failed.
pub twice_between : (n i fate : ℕ) (m : Moment) (run : Run) (s : Sending) (r old : Receiving) (chunk : Chunk) → IsAt m run s old → (drawn : Run) → emission n i m ≡ sent n fate i chunk (at drawn s old m.events) → is_lost n fate ≡ false → fate ≡ 1 → r ≡ after_arrival old i chunk → IsBetween m (emission n i m) (ends s r)
twice_between n i fate m run s r old chunk e drawn whole safe one is =
    let start = at drawn s old m.events in
    let mid = arrived i chunk start in
    let all : emission n i m ≡ arrived i chunk mid = whole ∙ cond-false (is_lost n fate) _ _ safe ∙ cond-true (fate == 1) _ _ (eq-eqb fate 1 one) in
    record {
      mid = mid;
      from = grows-then (grows-same m start refl (at-ends m run s old e)) (grows-event (Arrive i chunk) start);
      to = subst (Grows mid) (sym all) (grows-event (Arrive i chunk) mid);
      ends = ap (ends s) is;
    }

-- the emission of a number
pub emissions_step : (n number : ℕ) (m : Moment) (run : Run) (s : Sending) (r : Receiving) → s.base ≤ number → IsAt (emission n number (emissions n s.base (number - s.base) m)) run s r → IsAt (emissions n s.base (number + 1 - s.base) m) run s r
emissions_step n number m run s r above e =
    let k = number - s.base in
    let at : s.base + k ≡ number = omega arith in
    let next : k + 1 ≡ number + 1 - s.base = omega arith in
    subst (λ j. IsAt (emissions n s.base j m) run s r) next
    (emissions_next n s.base k m run s r (subst (λ i. IsAt (emission n i (emissions n s.base k m)) run s r) (sym at) e))

pub emissions_failed : (n number : ℕ) (m : Moment) (run : Run) (s : Sending) (r : Receiving) (e : Ends) → IsAt m run s r → s.base ≤ number → number < next_number s → IsBetween (emissions n s.base (number - s.base) m) (emission n number (emissions n s.base (number - s.base) m)) e → IsBetween m (all_sent n m) e
emissions_failed n number m run s r e begun above below i =
    let k = number - s.base in
    let at : s.base + k ≡ number = omega arith in
    emissions_between n k m run s r e begun (omega arith)
    (subst (λ j. IsBetween (emissions n s.base k m) (emission n j (emissions n s.base k m)) e) (sym at) i)

pub put_more : (s after : Sending) (chunk : Chunk) → after ≡ after_put s chunk → next_number after ≡ next_number s + 1
put_more s after chunk e =
    let one : next_number (after_put s chunk) ≡ next_number s + 1 = simp length-append (omega arith) in
    ap next_number e ∙ one

-- each delivery leaves less
pub less_ready : (r later : Receiving) (chunk : Chunk) → next_chunk r ≡ Some chunk → later ≡ after_next r → prefix_len is_some later.ahead < prefix_len is_some r.ahead
less_ready r later chunk some is =
    let passes : prefix_len is_some later.ahead ≡ prefix_len is_some (passed r (Some chunk)).ahead = ap (λ (x : Receiving). prefix_len is_some x.ahead) (is ∙ ap (passed r) some) in
    let slid = prefix_len-slid r.ahead chunk some in
    omega arith

pub none_of : {A : Type 0} (o : Option A) → ((x : A) → o ≡ Some x → ⊥) → o ≡ None
none_of None h = refl
none_of (Some x) h = absurd (h x refl)

pub cut : (bytes : List ℕ) (begin len : ℕ) → len ≡ min 64 (length bytes - begin) → take (begin + len - begin) (drop begin bytes) ≡ take 64 (drop begin bytes)
cut bytes begin len is =
    let one : begin + len - begin ≡ min 64 (length (drop begin bytes)) = omega (arith, length-drop begin bytes) in
    ap (λ k. take k (drop begin bytes)) one ∙ take_min 64 (drop begin bytes)

-- the form in which a loop over pairs says it
pub none_of_pair : (o : Option (ℕ × Chunk)) → ((x : ℕ × Chunk) → o ≡ Some x → ⊥) → o ≡ None
none_of_pair o h = none_of o h

pub none_held : {A : Type 0} (xs ys : List A) (len : ℕ) (o : Option A) → o ≡ None → xs ≡ ys ++ option_to_list o → (0 < len → is_some o ≡ true) → len ≡ length xs → (xs ≡ []) × (ys ≡ [])
none_held [] ys len o none e some l = (refl, sym (e ∙ ap (λ p. ys ++ option_to_list p) none ∙ append-nil ys))
none_held (x ∷ xs) ys len o none e some l = absurd (let two : false ≡ true = sym (ap is_some none) ∙ some (omega arith) in cc)

pub same_held : (m : Moment) (run after : Run) (s : Sending) (r : Receiving) → IsAt m run s r → after ≡ record run { held = after.held } → after.held.items ≡ run.held.items → IsAt m after s r
same_held m run after s r e same is =
    let now : IsAt m (record run { held = after.held }) s r = e ∙ ap (λ h. record (at run s r m.events) { held = reverse h }) (sym is) in
    subst (λ x. IsAt m x s r) (sym same) now
