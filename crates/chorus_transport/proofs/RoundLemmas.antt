-- A round that loses nothing brings all.
use Rattle.std.proofs.Common.{◌≡◌, ℕ, zero, suc, ◌+◌, ◌-◌, ◌<◌, ◌≤◌, ◌⊎◌, inl, inr, ⊎_elim, true, List, [], ◌∷◌, ◌++◌, length, map, replicate, get_or, Option, None, Some, is_some, refl, sym, ◌∙◌, ap, subst, arith, length-append}
use Rattle.std.specs.Prelude.{slice_get}
use Rattle.std.specs.List.{Contains, prefix_len}
use Rattle.std.proofs.lemmas.Bool.{cases_lt, or_left, cond-false, lt-ltb, le-ltb}
use Rattle.std.proofs.lemmas.Bool.Decides.{nat_tests}
use Rattle.std.proofs.lemmas.List.{take_all}
use Rattle.std.proofs.lemmas.List.Sums.{prefix_len-le-length}
use Rattle.chorus_transport.specs.declared.chunk.Chunk.{Chunk}
use Rattle.chorus_transport.specs.declared.sender.Acked.{Acked}
use Rattle.chorus_transport.specs.declared.sender.Acked.TheVariants as acked
use Rattle.chorus_transport.specs.Sending.{Sending, next_number, emitted, after_ack, moved}
use Rattle.chorus_transport.specs.Sending as sending
use Rattle.chorus_transport.specs.Receiving.{next_chunk, ack_of, kept, passed, is_known}
use Rattle.chorus_transport.specs.Receiving as receiving
use Rattle.chorus_transport.specs.Line.{Line, Event, Emit, Arrive, Deliver, Acknowledge, Hear, emits, arrives, delivers, hears, happens, run, line_after}
use Rattle.chorus_transport.specs.Rounds.{Brought, deliveries, emit_from, after_round, LosesNothing, HasAll}
use Rattle.chorus_transport.proofs.PlaceLemmas.{kept_stays, arrived_known, acknowledges}
use Rattle.chorus_transport.proofs.LineLemmas.{Holds, run_keeps, event_keeps, line_holds, ack_was_put, moved_from, not_beyond, prefix_len-slid}
use Rattle.chorus_transport.proofs.EventLemmas.{run-append, Fits, run_fits, event_fits, line_fits, event_follows, run_follows, IsLeft, run_leaves, deliveries_quiet, emissions_quiet, arrivals_quiet, hearings_quiet}

-- All that is ready is delivered.

record Delivered (line l : Line) : Type 0 where
  sender : l.sender ≡ line.sender
  emissions : l.emissions ≡ line.emissions
  all : l.receiver.delivered ≡ ack_of line.receiver

none_ready : (ahead : List (Option Chunk)) → get_or ahead 0 None ≡ None → prefix_len is_some ahead ≡ 0
none_ready [] e = refl
none_ready (None ∷ xs) e = refl
none_ready (Some x ∷ xs) e = absurd (cc)

-- one delivery more, of the chunk that is next
delivered_one : (line l : Line) (o : Option Chunk) → next_chunk line.receiver ≡ o → Delivered (delivers line o) l → Delivered line l
delivered_one line l None e d = d
delivered_one line l (Some chunk) e d =
    let slid = prefix_len-slid line.receiver.ahead chunk e in
    let passes : ack_of (passed line.receiver (next_chunk line.receiver)) ≡ ack_of line.receiver = ap (λ o. ack_of (passed line.receiver o)) e ∙ omega (arith, slid) in
    record { sender = d.sender; emissions = d.emissions; all = d.all ∙ passes }

-- fewer are ready then
fewer_ready : (line : Line) (n : ℕ) (o : Option Chunk) → next_chunk line.receiver ≡ o → prefix_len is_some line.receiver.ahead ≤ suc n → prefix_len is_some (delivers line o).receiver.ahead ≤ n
fewer_ready line n None e le = omega (arith, none_ready line.receiver.ahead e)
fewer_ready line n (Some chunk) e le =
    let slid = prefix_len-slid line.receiver.ahead chunk e in
    let passes : prefix_len is_some (passed line.receiver (next_chunk line.receiver)).ahead ≡ prefix_len is_some (passed line.receiver (Some chunk)).ahead = ap (λ o. prefix_len is_some (passed line.receiver o).ahead) e in
    omega (arith, slid, passes)

deliver_all : (n : ℕ) (line : Line) → prefix_len is_some line.receiver.ahead ≤ n → Delivered line (run (replicate n Deliver) line)
deliver_all zero line le = record { sender = refl; emissions = refl; all = omega arith }
deliver_all (suc n) line le =
    let o = next_chunk line.receiver in
    delivered_one line (run (replicate n Deliver) (delivers line o)) o refl (deliver_all n (delivers line o) (fewer_ready line n o refl le))

-- All that the sender keeps is emitted.

-- these numbers have a chunk
abbrev pub Keeps : Sending → ℕ → ℕ → Type 0
Keeps s number count = (k : ℕ) → k < count → (chunk : Chunk) × (emitted s (number + k) ≡ Some chunk)

-- and are emitted in this order, behind so many
abbrev AreEmitted : ℕ → ℕ → ℕ → Line → Type 0
AreEmitted behind number count l = (k : ℕ) → k < count → (chunk : Chunk) × (slice_get l.emissions (behind + k) ≡ Some (number + k, chunk))

emits_sender : (line : Line) (number : ℕ) (o : Option Chunk) → (emits line number o).sender ≡ line.sender
emits_sender line number None = refl
emits_sender line number (Some chunk) = refl

last_at : {A : Type 0} (xs : List A) (x : A) → slice_get (xs ++ x ∷ []) (length xs) ≡ Some x
last_at [] x = refl
last_at (y ∷ xs) x = last_at xs x

emit_all : (number count : ℕ) (line : Line) → Keeps line.sender number count → AreEmitted (length line.emissions) number count (run (emit_from number count) line)
emit_all number zero line keeps = λ k lt. absurd (omega (arith, lt))
emit_all number (suc count) line keeps =
    let first = keeps 0 (omega arith) in
    let here : number + 0 ≡ number = omega arith in
    let e : emitted line.sender number ≡ Some first.0 = ap (emitted line.sender) (sym here) ∙ first.1 in
    let l : Line = happens line (Emit number) in
    let is : l ≡ emits line number (Some first.0) = ap (emits line number) e in
    let same : l.sender ≡ line.sender = emits_sender line number (emitted line.sender number) in
    let one : slice_get l.emissions (length line.emissions) ≡ Some (number, first.0) =
    ap (λ (x : Line). slice_get x.emissions (length line.emissions)) is ∙ last_at line.emissions (number, first.0) in
    let more : length l.emissions ≡ length line.emissions + 1 = ap (λ (x : Line). length x.emissions) is ∙ length-append line.emissions _ in
    let rest = emit_all (number + 1) count l (next l same) in
    put_first first.0 (length l.emissions) (run (emit_from (number + 1) count) l) more
    ((run_follows (emit_from (number + 1) count) l).emissions (length line.emissions) _ one) rest
  where
    next : (l : Line) → l.sender ≡ line.sender → Keeps l.sender (number + 1) count
    next l same k lt =
        let g = keeps (suc k) (omega (arith, lt)) in
        let at : number + 1 + k ≡ number + suc k = omega arith in
        (g.0, ap (λ (s : Sending). emitted s (number + 1 + k)) same ∙ ap (emitted line.sender) at ∙ g.1)

    put_first : (chunk : Chunk) (behind : ℕ) (l : Line) → behind ≡ length line.emissions + 1 → slice_get l.emissions (length line.emissions) ≡ Some (number, chunk) → AreEmitted behind (number + 1) count l → AreEmitted (length line.emissions) number (suc count) l
    put_first chunk behind l e one rest zero lt =
        let at : length line.emissions + 0 ≡ length line.emissions = omega arith in
        let is : number ≡ number + 0 = omega arith in
        (chunk, ap (slice_get l.emissions) at ∙ one ∙ ap (λ n. Some (n, chunk)) is)
    put_first chunk behind l e one rest (suc k) lt =
        let r = rest k (omega (arith, lt)) in
        let at : length line.emissions + suc k ≡ behind + k = omega (arith, e) in
        let is : number + 1 + k ≡ number + suc k = omega arith in
        (r.0, ap (slice_get l.emissions) at ∙ r.1 ∙ ap (λ n. Some (n, r.0)) is)

found : {A : Type 0} (xs : List A) (k : ℕ) → k < length xs → (x : A) × (slice_get xs k ≡ Some x)
found [] k lt = absurd (omega (arith, lt))
found (x ∷ xs) zero lt = (x, refl)
found (x ∷ xs) (suc k) lt = found xs k (omega (arith, lt))

pub keeps_all : (s : Sending) → Keeps s s.base (length s.kept)
keeps_all s k lt =
    let at : (s.base + k) - s.base ≡ k = omega arith in
    let g = found s.kept k lt in
    (g.0, cond-false _ None _ (le-ltb (s.base + k) s.base (omega arith)) ∙ ap (slice_get s.kept) at ∙ g.1)

-- What arrives within the window is known, and stays so.

arrive_stays : (line : Line) (o : Option (ℕ × Chunk)) (i : ℕ) → is_known line.receiver i ≡ true → is_known (arrives line o).receiver i ≡ true
arrive_stays line None i e = e
arrive_stays line (Some (number, chunk)) i e = kept_stays line.receiver number i chunk (receiving.answer_to line.receiver number) e

arrivals_stay : (which : List ℕ) (line : Line) (i : ℕ) → is_known line.receiver i ≡ true → is_known (run (map (λ k. Arrive k) which) line).receiver i ≡ true
arrivals_stay [] line i e = e
arrivals_stay (k ∷ which) line i e = arrivals_stay which (happens line (Arrive k)) i (arrive_stays line (slice_get line.emissions k) i e)

contains_cases : (x y : ℕ) (ys : List ℕ) → Contains (y ∷ ys) x → (y ≡ x) ⊎ Contains ys x
contains_cases x y ys (zero, lt, is) = inl is
contains_cases x y ys (suc k, lt, is) = inr (k, omega (arith, lt), is)

arrivals_known : (window low : ℕ) (which : List ℕ) (line : Line) (k i : ℕ) (chunk : Chunk) → Fits window line → low ≤ line.receiver.delivered → i < low + window → Contains which k → slice_get line.emissions k ≡ Some (i, chunk) → is_known (run (map (λ j. Arrive j) which) line).receiver i ≡ true
arrivals_known window low [] line k i chunk f le lt there at = absurd (omega (arith, there.1))
arrivals_known window low (w ∷ which) line k i chunk f le lt there at =
    let l : Line = happens line (Arrive w) in
    let next = event_follows line (Arrive w) in
    ⊎_elim
    (λ (here : w ≡ k).
    let is : slice_get line.emissions w ≡ Some (i, chunk) = ap (slice_get line.emissions) here ∙ at in
    let known : is_known (arrives line (Some (i, chunk))).receiver i ≡ true = arrived_known line.receiver i chunk (omega (arith, lt, le, f.ahead)) in
    arrivals_stay which l i (subst (λ o. is_known (arrives line o).receiver i ≡ true) (sym is) known))
    (λ (later : Contains which k).
    arrivals_known window low which l k i chunk (event_fits window line (Arrive w) f) (omega (arith, le, next.delivered)) lt later (next.emissions k (i, chunk) at))
    (contains_cases k w which there)

-- What is acknowledged and heard is let go.

old_from : (s : Sending) (upto : ℕ) → sending.answer_to s upto ≡ acked.Old → upto ≤ s.base
old_from s upto e = grind (arith, nat_tests)

ack_reaches : (s : Sending) (upto : ℕ) → upto ≤ next_number s → upto ≤ (after_ack s upto).base
ack_reaches s upto le = by (sending.answer_to s upto) refl
  where
    by : (a : Acked) → sending.answer_to s upto ≡ a → upto ≤ (moved s a).base
    by acked.Old e = old_from s upto e
    by (acked.Moved n) e = omega (arith, (moved_from s upto n e).0)
    by acked.Beyond e = absurd (not_beyond s upto le e)

hear_reaches : (line : Line) (o : Option ℕ) (upto : ℕ) → o ≡ Some upto → upto ≤ next_number line.sender → upto ≤ (hears line o).sender.base
hear_reaches line o upto e le = subst (λ x. upto ≤ (hears line x).sender.base) (sym e) (ack_reaches line.sender upto le)

hearings_reach : (which : List ℕ) (line : Line) (k upto : ℕ) → Holds line → upto ≤ length line.put → Contains which k → slice_get line.acks k ≡ Some upto → upto ≤ (run (map (λ j. Hear j) which) line).sender.base
hearings_reach [] line k upto h le there at = absurd (omega (arith, there.1))
hearings_reach (w ∷ which) line k upto h le there at =
    let l : Line = happens line (Hear w) in
    let left : IsLeft line l = run_leaves (Hear w ∷ []) line (tt, tt) in
    ⊎_elim
    (λ (here : w ≡ k).
    let now = hear_reaches line (slice_get line.acks w) upto (ap (slice_get line.acks) here ∙ at) (omega (arith, le, h.counted)) in
    omega (arith, now, (run_follows (map (λ j. Hear j) which) l).base))
    (λ (later : Contains which k).
    hearings_reach which l k upto (event_keeps line (Hear w) h) (omega (arith, le, ap length left.put)) later ((event_follows line (Hear w)).acks k upto at))
    (contains_cases k w which there)

pub none_of_them : {A : Type 0} (xs : List A) → length xs ≡ 0 → xs ≡ []
none_of_them [] e = refl
none_of_them (x ∷ xs) e = absurd (omega (arith, e))

-- where all was delivered and all acknowledgements came
pub all_came : (line : Line) (put : List Chunk) → Holds line → line.put ≡ put → length put ≤ line.sender.base → length put ≤ line.receiver.delivered → HasAll put line
all_came line put h same base delivered =
    let long = ap length same in
    record {
      put = same;
      delivered = h.delivered ∙ take_all line.receiver.delivered line.put (omega (arith, long, delivered)) ∙ same;
      acknowledged = omega (arith, h.counted, long, base);
      kept = none_of_them line.sender.kept (omega (arith, h.counted, long, base));
    }

-- The round, part by part.

round_parts : (line : Line) (brought : Brought) → (let ready = run (deliveries line) line in
    let sent = run (emit_from line.sender.base (length line.sender.kept)) ready in
    let come = run (map (λ k. Arrive k) brought.emissions) sent in
    let given = run (deliveries line) come in
    after_round line brought ≡ run (map (λ k. Hear k) brought.acks) (happens given Acknowledge))
round_parts line brought =
    let some = deliveries line in
    let emit = emit_from line.sender.base (length line.sender.kept) in
    let arrive = map (λ k. Arrive k) brought.emissions in
    let last : List Event = Acknowledge ∷ map (λ k. Hear k) brought.acks in
    run-append (some ++ emit ++ arrive ++ some) last line
    ∙ ap (run last)
    (run-append (some ++ emit ++ arrive) some line
    ∙ ap (run some) (run-append (some ++ emit) arrive line ∙ ap (run arrive) (run-append some emit line)))

module _ (window : ℕ) (line : Line) (brought : Brought) (h : Holds line) (f : Fits window line) (whole : LosesNothing line brought) where
  abbrev emit : List Event
  emit = emit_from line.sender.base (length line.sender.kept)

  abbrev arrive : List Event
  arrive = map (λ k. Arrive k) brought.emissions

  abbrev hear : List Event
  hear = map (λ k. Hear k) brought.acks

  abbrev ready : Line
  ready = run (deliveries line) line

  abbrev sent : Line
  sent = run emit ready

  abbrev come : Line
  come = run arrive sent

  abbrev given : Line
  given = run (deliveries line) come

  abbrev told : Line
  told = happens given Acknowledge

  abbrev ended : Line
  ended = run hear told

  round_is : after_round line brought ≡ ended
  round_is = round_parts line brought

  h_come : Holds come
  h_come = run_keeps arrive sent (run_keeps emit ready (run_keeps (deliveries line) line h))

  h_given : Holds given
  h_given = run_keeps (deliveries line) come h_come

  h_told : Holds told
  h_told = event_keeps given Acknowledge h_given

  f_sent : Fits window sent
  f_sent = run_fits window emit ready (run_fits window (deliveries line) line f)

  f_come : Fits window come
  f_come = run_fits window arrive sent f_sent

  -- as many deliveries as the window is wide are enough
  delivers_all : (l : Line) → Fits window l → Delivered l (run (deliveries line) l)
  delivers_all l fits = deliver_all line.sender.window l (omega (arith, prefix_len-le-length is_some l.receiver.ahead, fits.ahead, f.wide))

  first : Delivered line ready
  first = delivers_all line f

  second : Delivered come given
  second = delivers_all come f_come

  low : line.sender.base ≤ sent.receiver.delivered
  low = omega (arith, h.base, first.all, (run_follows emit ready).delivered)

  emission : AreEmitted (length line.emissions) line.sender.base (length line.sender.kept) sent
  emission =
      subst (λ n. AreEmitted n line.sender.base (length line.sender.kept) sent) (ap length first.emissions)
      (emit_all line.sender.base (length line.sender.kept) ready
      (subst (λ (s : Sending). Keeps s line.sender.base (length line.sender.kept)) (sym first.sender) (keeps_all line.sender)))

  known : (i : ℕ) → i < length line.put → is_known come.receiver i ≡ true
  known i below =
      ⊎_elim
      (λ (l : i < line.sender.base).
      or_left _ _ (lt-ltb i come.receiver.delivered (omega (arith, l, low, (run_follows arrive sent).delivered))))
      (λ (g : line.sender.base ≤ i).
      let k = i - line.sender.base in
      let at : line.sender.base + k ≡ i = omega (arith, g) in
      let few : k < length line.sender.kept = omega (arith, at, below, h.counted) in
      let e = emission k few in
      let there : slice_get sent.emissions (length line.emissions + k) ≡ Some (i, e.0) = e.1 ∙ ap (λ n. Some (n, e.0)) at in
      arrivals_known window line.sender.base brought.emissions sent (length line.emissions + k) i e.0 f_sent low (omega (arith, few, at, f.room)) (whole.emissions k few) there)
      (cases_lt i line.sender.base)

  given_delivered : length line.put ≤ given.receiver.delivered
  given_delivered = omega (arith, second.all, acknowledges come.receiver (length line.put) known)

  given_left : IsLeft line given
  given_left =
      let a = run_leaves (deliveries line) line (deliveries_quiet line.sender.window) in
      let b = run_leaves emit ready (emissions_quiet line.sender.base (length line.sender.kept)) in
      let c = run_leaves arrive sent (arrivals_quiet brought.emissions) in
      let d = run_leaves (deliveries line) come (deliveries_quiet line.sender.window) in
      record { put = d.put ∙ c.put ∙ b.put ∙ a.put; acks = d.acks ∙ c.acks ∙ b.acks ∙ a.acks }

  said : slice_get told.acks (length line.acks) ≡ Some (ack_of given.receiver)
  said =
      ap (λ (acks : List ℕ). slice_get (acks ++ ack_of given.receiver ∷ []) (length line.acks)) given_left.acks
      ∙ last_at line.acks (ack_of given.receiver)

  ended_base : length line.put ≤ ended.sender.base
  ended_base =
      let reached = hearings_reach brought.acks told (length line.acks) (ack_of given.receiver) h_told (ack_was_put given h_given) whole.acks said in
      omega (arith, reached, given_delivered)

  ended_all : HasAll line.put ended
  ended_all =
      all_came ended line.put (run_keeps hear told h_told) ((run_leaves hear told (hearings_quiet brought.acks)).put ∙ given_left.put) ended_base
      (omega (arith, given_delivered, (run_follows hear told).delivered))

  pub brings : HasAll line.put (after_round line brought)
  brings = subst (HasAll line.put) (sym round_is) ended_all

-- what is brought in a round puts nothing
pub round_put : (line : Line) (brought : Brought) → (after_round line brought).put ≡ line.put
round_put line brought =
    let some = deliveries line in
    let emit = emit_from line.sender.base (length line.sender.kept) in
    let arrive = map (λ k. Arrive k) brought.emissions in
    let hear = map (λ k. Hear k) brought.acks in
    let ready = run some line in
    let sent = run emit ready in
    let come = run arrive sent in
    let given = run some come in
    ap (λ (l : Line). l.put) (round_parts line brought)
    ∙ (run_leaves hear (happens given Acknowledge) (hearings_quiet brought.acks)).put
    ∙ (run_leaves some come (deliveries_quiet line.sender.window)).put
    ∙ (run_leaves arrive sent (arrivals_quiet brought.emissions)).put
    ∙ (run_leaves emit ready (emissions_quiet line.sender.base (length line.sender.kept))).put
    ∙ (run_leaves some line (deliveries_quiet line.sender.window)).put

pub round_brings_all : (window : ℕ) (events : List Event) (brought : Brought) → LosesNothing (line_after window events) brought → HasAll (line_after window events).put (after_round (line_after window events) brought)
round_brings_all window events brought whole = brings window (line_after window events) brought (line_holds window events) (line_fits window events) whole
