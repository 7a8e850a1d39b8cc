-- What holds of a line after each event, and so after every list of them.
use Rattle.std.proofs.Common.{◌≡◌, ◌≢◌, ℕ, suc, ◌+◌, ◌-◌, ◌<◌, ◌≤◌, ⊎_elim, true, List, [], ◌∷◌, ◌++◌, length, get_or, take, drop, Option, None, Some, is_some, refl, sym, ◌∙◌, ap, subst, arith, add-zero, length-append, length-drop}
use Rattle.std.specs.Prelude.{slice_get, IfSome}
use Rattle.std.specs.List.{prefix_len}
use Rattle.std.proofs.lemmas.Bool.{cases_lt, or_left, cond_both, cond-true, cond-false, lt-ltb, le-ltb}
use Rattle.std.proofs.lemmas.Bool.Decides.{nat_tests}
use Rattle.std.proofs.lemmas.List.{take_more, take-append-le, drop-append-le, drop-drop, take-append-drop, length-take-le}
use Rattle.std.proofs.lemmas.List.Sums.{prefix_len_passes}
use Rattle.std.proofs.lemmas.Option.{none-some, slice_get_within, get_or_from_slice_get, IfSome_then}
use Rattle.chorus_transport.specs.declared.chunk.Chunk.{Chunk}
use Rattle.chorus_transport.specs.declared.sender.Acked.{Acked}
use Rattle.chorus_transport.specs.declared.sender.Acked.TheVariants as acked
use Rattle.chorus_transport.specs.declared.receiver.Got.{Got}
use Rattle.chorus_transport.specs.declared.receiver.Got.TheVariants as got
use Rattle.chorus_transport.specs.Sending.{Sending, next_number, has_room, emitted, moved}
use Rattle.chorus_transport.specs.Sending as sending
use Rattle.chorus_transport.specs.Receiving.{Receiving, next_chunk, ack_of, kept, passed}
use Rattle.chorus_transport.specs.Receiving as receiving
use Rattle.chorus_transport.specs.Line.{Line, Event, Put, Emit, Arrive, Deliver, Acknowledge, Hear, emits, arrives, delivers, hears, happens, run, opening, line_after, IsPrefixOf}
use Rattle.chorus_transport.proofs.ListLemmas.{slice_get-append, slice_get-drop, Each, Each-push, Each-weaker, set_cases}
use Rattle.chorus_transport.proofs.PlaceLemmas.{prefix_len-le-set, prefix_len-padded, get_or-padded, get_or-replicate_none}

-- a chunk with its number is one that was put under that number
abbrev WasPut : List Chunk → ℕ × Chunk → Type 0
WasPut put e = slice_get put e.0 ≡ Some e.1

is_some_value : {A : Type 0} (o : Option A) → is_some o ≡ true → (x : A) × (o ≡ Some x)
is_some_value None e = cc
is_some_value (Some x) e = (x, refl)

-- what is kept was not delivered
kept_from : (r : Receiving) (number : ℕ) → receiving.answer_to r number ≡ got.Kept → r.delivered ≤ number
kept_from r number e =
    ⊎_elim
    (λ (l : number < r.delivered).
    let old = cond-true _ got.Old _ (or_left _ (is_some (get_or r.ahead (number - r.delivered) None)) (lt-ltb number r.delivered l)) in
    absurd (let differ : got.Old ≡ got.Kept = sym old ∙ e in cc))
    (λ (g : r.delivered ≤ number). g)
    (cases_lt number r.delivered)

-- what was acknowledged for the first time was put
pub moved_from : (s : Sending) (upto by : ℕ) → sending.answer_to s upto ≡ acked.Moved by → (upto ≡ s.base + by) × (upto ≤ next_number s)
moved_from s upto by e = (grind (arith, nat_tests), grind (arith, nat_tests))

pub not_beyond : (s : Sending) (upto : ℕ) → upto ≤ next_number s → sending.answer_to s upto ≢ acked.Beyond
not_beyond s upto le e = grind (arith, nat_tests)

-- what every event keeps
pub record Holds (line : Line) : Type 0 where
  pub counted : next_number line.sender ≡ length line.put
  pub kept : line.sender.kept ≡ drop line.sender.base line.put
  pub emissions : Each (WasPut line.put) line.emissions
  pub ahead : (k : ℕ) (chunk : Chunk) → get_or line.receiver.ahead k None ≡ Some chunk → slice_get line.put (line.receiver.delivered + k) ≡ Some chunk
  pub delivered : line.delivered ≡ take line.receiver.delivered line.put
  pub within : line.receiver.delivered ≤ length line.put
  pub acks : Each (λ upto. upto ≤ ack_of line.receiver) line.acks
  pub base : line.sender.base ≤ ack_of line.receiver

-- what is acknowledged was put
pub ack_was_put : (line : Line) → Holds line → ack_of line.receiver ≤ length line.put
ack_was_put line h =
    let filled = prefix_len is_some line.receiver.ahead in
    ⊎_elim
    (λ (l : 0 < filled).
    let last : (x : Chunk) × (get_or line.receiver.ahead (filled - 1) None ≡ Some x) = is_some_value _ (prefix_len_passes is_some line.receiver.ahead (filled - 1) None (omega arith)) in
    omega (arith, slice_get_within line.put _ last.0 (h.ahead (filled - 1) last.0 last.1)))
    (λ (g : filled ≤ 0). omega (arith, h.within))
    (cases_lt 0 filled)

put_keeps : (line : Line) (chunk : Chunk) → Holds line → Holds (happens line (Put chunk))
put_keeps line chunk h =
    let more = chunk ∷ [] in
    let below : line.sender.base ≤ length line.put = omega (arith, h.counted) in
    cond_both (has_room line.sender) _ line Holds
    (λ _. record {
      counted = simp length-append (omega (arith, h.counted));
      kept = ap (λ chunks. chunks ++ more) h.kept ∙ sym (drop-append-le line.sender.base line.put more below);
      emissions = Each-weaker (WasPut line.put) (WasPut (line.put ++ more)) line.emissions (λ e. slice_get-append line.put more e.0 e.1) h.emissions;
      ahead = λ k c e. slice_get-append line.put more _ c (h.ahead k c e);
      delivered = h.delivered ∙ sym (take-append-le line.receiver.delivered line.put more h.within);
      within = simp length-append (omega (arith, h.within));
      acks = h.acks;
      base = h.base;
    })
    (λ _. h)

-- what is emitted under a number was put under it
emitted_was_put : (line : Line) (number : ℕ) (chunk : Chunk) → Holds line → emitted line.sender number ≡ Some chunk → slice_get line.put number ≡ Some chunk
emitted_was_put line number chunk h e =
    let base = line.sender.base in
    ⊎_elim
    (λ (l : number < base). absurd (none-some chunk (sym (cond-true _ None _ (lt-ltb number base l)) ∙ e)))
    (λ (g : base ≤ number).
    let at : base + (number - base) ≡ number = omega arith in
    sym (ap (slice_get line.put) at)
    ∙ sym (slice_get-drop base line.put (number - base))
    ∙ ap (λ (chunks : List Chunk). slice_get chunks (number - base)) (sym h.kept)
    ∙ sym (cond-false _ None _ (le-ltb number base g))
    ∙ e)
    (cases_lt number base)

emit_keeps : (line : Line) (number : ℕ) (o : Option Chunk) → Holds line → emitted line.sender number ≡ o → Holds (emits line number o)
emit_keeps line number None h e = h
emit_keeps line number (Some chunk) h e =
    record {
      counted = h.counted;
      kept = h.kept;
      emissions = Each-push (WasPut line.put) line.emissions (number, chunk) h.emissions (emitted_was_put line number chunk h e);
      ahead = h.ahead;
      delivered = h.delivered;
      within = h.within;
      acks = h.acks;
      base = h.base;
    }

arrival_keeps : (line : Line) (number : ℕ) (chunk : Chunk) (answer : Got) → Holds line → slice_get line.put number ≡ Some chunk → receiving.answer_to line.receiver number ≡ answer → Holds (record line { receiver = kept line.receiver number chunk answer })
arrival_keeps line number chunk got.Old h p e = h
arrival_keeps line number chunk got.Far h p e = h
arrival_keeps line number chunk got.Kept h p e =
    let r = line.receiver in
    let from : r.delivered ≤ number = kept_from r number e in
    record {
      counted = h.counted;
      kept = h.kept;
      emissions = h.emissions;
      ahead = λ k c e'.
          ⊎_elim
          (h.ahead k c)
          (λ (q : (k ≡ number - r.delivered) × (chunk ≡ c)).
          let at : r.delivered + k ≡ number = omega (arith, q.0) in
          ap (slice_get line.put) at ∙ p ∙ ap Some q.1)
          (set_cases r.ahead (number - r.delivered) chunk k c e');
      delivered = h.delivered;
      within = h.within;
      acks = Each-weaker (λ upto. upto ≤ ack_of r) _ line.acks (λ upto le. omega (arith, le, prefix_len-le-set r.ahead (number - r.delivered) chunk)) h.acks;
      base = omega (arith, h.base, prefix_len-le-set r.ahead (number - r.delivered) chunk);
    }

arrive_keeps : (line : Line) (o : Option (ℕ × Chunk)) → Holds line → IfSome o (WasPut line.put) → Holds (arrives line o)
arrive_keeps line None h p = h
arrive_keeps line (Some (number, chunk)) h p = arrival_keeps line number chunk _ h p refl

-- the places behind the first, with an empty one at their end
get_or-slid : (ahead : List (Option Chunk)) (k : ℕ) → get_or (drop 1 ahead ++ None ∷ []) k None ≡ get_or ahead (suc k) None
get_or-slid [] k = get_or-replicate_none Chunk 1 k
get_or-slid (x ∷ xs) k = get_or-padded 1 xs k

pub prefix_len-slid : (ahead : List (Option Chunk)) (chunk : Chunk) → get_or ahead 0 None ≡ Some chunk → 1 + prefix_len is_some (drop 1 ahead ++ None ∷ []) ≡ prefix_len is_some ahead
prefix_len-slid [] chunk e = absurd (none-some chunk e)
prefix_len-slid (None ∷ xs) chunk e = absurd (none-some chunk e)
prefix_len-slid (Some x ∷ xs) chunk e = ap (λ n. 1 + n) (prefix_len-padded 1 xs)

delivery_keeps : (line : Line) (chunk : Chunk) → Holds line → next_chunk line.receiver ≡ Some chunk → Holds (record line { receiver = passed line.receiver (Some chunk); delivered = line.delivered ++ chunk ∷ [] })
delivery_keeps line chunk h e =
    let r = line.receiver in
    let here : slice_get line.put r.delivered ≡ Some chunk = rw add-zero at (h.ahead 0 chunk e) in
    let same : r.delivered + 1 + prefix_len is_some (drop 1 r.ahead ++ None ∷ []) ≡ ack_of r = omega (arith, prefix_len-slid r.ahead chunk e) in
    record {
      counted = h.counted;
      kept = h.kept;
      emissions = h.emissions;
      ahead = λ k c e'.
          let at : r.delivered + 1 + k ≡ r.delivered + suc k = omega arith in
          ap (slice_get line.put) at ∙ h.ahead (suc k) c (sym (get_or-slid r.ahead k) ∙ e');
      delivered =
          ap (λ (chunks : List Chunk). chunks ++ chunk ∷ []) h.delivered
          ∙ ap (λ c. take r.delivered line.put ++ c ∷ []) (sym (get_or_from_slice_get line.put r.delivered chunk chunk here))
          ∙ sym (take_more line.put r.delivered chunk (slice_get_within line.put r.delivered chunk here));
      within = omega (arith, slice_get_within line.put r.delivered chunk here);
      acks = Each-weaker (λ upto. upto ≤ ack_of r) _ line.acks (λ upto le. omega (arith, le, same)) h.acks;
      base = omega (arith, h.base, same);
    }

deliver_keeps : (line : Line) (o : Option Chunk) → Holds line → next_chunk line.receiver ≡ o → Holds (delivers line o)
deliver_keeps line None h e = h
deliver_keeps line (Some chunk) h e =
    subst (λ r. Holds (record line { receiver = r; delivered = line.delivered ++ chunk ∷ [] })) (sym (ap (passed line.receiver) e)) (delivery_keeps line chunk h e)

acknowledge_keeps : (line : Line) → Holds line → Holds (happens line Acknowledge)
acknowledge_keeps line h =
    record {
      counted = h.counted;
      kept = h.kept;
      emissions = h.emissions;
      ahead = h.ahead;
      delivered = h.delivered;
      within = h.within;
      acks = Each-push (λ upto. upto ≤ ack_of line.receiver) line.acks (ack_of line.receiver) h.acks (omega arith);
      base = h.base;
    }

answer_keeps : (line : Line) (upto : ℕ) (answer : Acked) → Holds line → upto ≤ ack_of line.receiver → sending.answer_to line.sender upto ≡ answer → Holds (record line { sender = moved line.sender answer })
answer_keeps line upto acked.Old h le e = h
answer_keeps line upto acked.Beyond h le e = h
answer_keeps line upto (acked.Moved by) h le e =
    let s = line.sender in
    let m = moved_from s upto by e in
    record {
      counted = simp length-drop (omega (arith, h.counted, m.0, m.1));
      kept = ap (drop by) h.kept ∙ drop-drop by s.base line.put;
      emissions = h.emissions;
      ahead = h.ahead;
      delivered = h.delivered;
      within = h.within;
      acks = h.acks;
      base = omega (arith, le, m.0);
    }

hear_keeps : (line : Line) (o : Option ℕ) → Holds line → IfSome o (λ upto. upto ≤ ack_of line.receiver) → Holds (hears line o)
hear_keeps line None h le = h
hear_keeps line (Some upto) h le = answer_keeps line upto _ h le refl

pub event_keeps : (line : Line) (event : Event) → Holds line → Holds (happens line event)
event_keeps line (Put chunk) h = put_keeps line chunk h
event_keeps line (Emit number) h = emit_keeps line number _ h refl
event_keeps line (Arrive which) h = arrive_keeps line _ h (h.emissions which)
event_keeps line Deliver h = deliver_keeps line _ h refl
event_keeps line Acknowledge h = acknowledge_keeps line h
event_keeps line (Hear which) h = hear_keeps line _ h (h.acks which)

pub run_keeps : (events : List Event) (line : Line) → Holds line → Holds (run events line)
run_keeps [] line h = h
run_keeps (event ∷ events) line h = run_keeps events (happens line event) (event_keeps line event h)

opening_holds : (window : ℕ) → Holds (opening window)
opening_holds window =
    record {
      counted = refl;
      kept = refl;
      emissions = λ which. tt;
      ahead = λ k chunk e. absurd (none-some chunk (sym (get_or-replicate_none Chunk window k) ∙ e));
      delivered = refl;
      within = omega arith;
      acks = λ which. tt;
      base = omega arith;
    }

-- every line, after every list of events
pub line_holds : (window : ℕ) (events : List Event) → Holds (line_after window events)
line_holds window events = run_keeps events (opening window) (opening_holds window)

pub delivered_prefix : (line : Line) → Holds line → IsPrefixOf line.delivered line.put
delivered_prefix line h =
    let d = line.receiver.delivered in
    (drop d line.put, ap (λ (chunks : List Chunk). chunks ++ drop d line.put) h.delivered ∙ take-append-drop d line.put)

pub delivered_counted : (line : Line) → Holds line → line.receiver.delivered ≡ length line.delivered
delivered_counted line h = sym (ap length h.delivered ∙ length-take-le line.receiver.delivered line.put h.within)

pub never_beyond : (line : Line) (which : ℕ) → Holds line → IfSome (slice_get line.acks which) (λ upto. sending.answer_to line.sender upto ≢ acked.Beyond)
never_beyond line which h = IfSome_then (slice_get line.acks which) (h.acks which) (λ upto le. not_beyond line.sender upto (omega (arith, le, ack_was_put line h, h.counted)))
