-- What the parts of a round keep, and that a chunk which is not lost becomes known.
use Rattle.std.proofs.Common.{◌≡◌, ℕ, zero, suc, ◌+◌, ◌%◌, ◌<◌, ◌≤◌, ◌⊎◌, inl, inr, ⊎_elim, Bool, true, false, cond, List, [], ◌∷◌, ◌++◌, length, Option, None, Some, is_some, refl, sym, ◌∙◌, ap, subst, arith, length-append}
use Rattle.std.specs.Prelude.{◌==◌}
use Rattle.std.specs.List.{prefix_len}
use Rattle.std.proofs.lemmas.Bool.{cond_both, cases_lt}
use Rattle.std.proofs.lemmas.List.Sums.{prefix_len_passes}
use Rattle.chorus_transport.specs.declared.chunk.Chunk.{Chunk}
use Rattle.chorus_transport.specs.Sending.{next_number, emitted}
use Rattle.chorus_transport.specs.Receiving.{Receiving, answer_to, after_arrival, next_chunk, passed, after_next, ack_of, kept, is_known}
use Rattle.chorus_transport.proofs.PlaceLemmas.{kept_stays, arrived_known}
use Rattle.chorus_transport.proofs.RoundLemmas.{Keeps, keeps_all}
use Rattle.chorus_transport.specs.declared.receiver.Got.{Got}
use Rattle.chorus_transport.specs.declared.receiver.Got.TheVariants as got
use Rattle.chorus_draw.specs.Draws.{next_state, number_of}
use Rattle.chorus_lossy.specs.Line.{ends, chunk_at, chunk_count}
use Rattle.chorus_lossy.specs.Rounds.{Moment, arrived, held_back, one_lost, is_lost, room, puts, filled, sent, sent_if_kept, emission, emissions, all_sent, releases, released, given, deliveries, all_delivered}
use Rattle.chorus_lossy.proofs.Soundness.{IsSound, put_sound, arrival_sound, delivery_sound, emitted_sound, prefix_len-slid}

-- Chunks are put.

pub record ArePut (bytes : List ℕ) (k : ℕ) (m later : Moment) : Type 0 where
  pub sound : IsSound bytes later.ends later.delivered
  pub many : length later.ends.sender.kept ≡ length m.ends.sender.kept + k
  pub base : later.ends.sender.base ≡ m.ends.sender.base
  pub receiver : later.ends.receiver ≡ m.ends.receiver
  pub held : later.held ≡ m.held
  pub out : later.delivered ≡ m.delivered

puts_put : (bytes : List ℕ) (k : ℕ) (m : Moment) → IsSound bytes m.ends m.delivered → next_number m.ends.sender + k ≤ chunk_count bytes → length m.ends.sender.kept + k ≤ 8 → ArePut bytes k m (puts bytes k m)
puts_put bytes zero m h more fits = record { sound = h; many = omega arith; base = refl; receiver = refl; held = refl; out = refl }
puts_put bytes (suc k) m h more fits =
    let p = puts_put bytes k m h (omega arith) (omega arith) in
    let before = puts bytes k m in
    record {
      sound = put_sound bytes before.ends before.delivered p.sound (omega (arith, p.many, p.base)) (omega (arith, p.many));
      many = simp length-append (omega (arith, p.many));
      base = p.base;
      receiver = p.receiver;
      held = p.held;
      out = p.out;
    }

pub filled_put : (bytes : List ℕ) (m : Moment) → IsSound bytes m.ends m.delivered → ArePut bytes (room bytes m.ends.sender) m (filled bytes m)
unfolding filled
filled_put bytes m h =
    let window = h.window in
    let fits = h.fits in
    let upto = h.put in
    puts_put bytes (room bytes m.ends.sender) m h (omega arith) (omega arith)

-- Chunks are emitted, and arrive, or are held.

abbrev pub AreRight : List ℕ → ℕ → List (ℕ × Chunk) → Type 0
AreRight bytes next [] = Unit {0}
AreRight bytes next ((i, c) ∷ held) = (c ≡ chunk_at bytes i) × (i < next) × AreRight bytes next held

abbrev pub IsHeld : ℕ → List (ℕ × Chunk) → Type 0
IsHeld b [] = ⊥
IsHeld b ((i, c) ∷ held) = (i ≡ b) ⊎ IsHeld b held

-- the receiver knows b, or b is held
abbrev pub IsOn : ℕ → Moment → Type 0
IsOn b m = (is_known m.ends.receiver b ≡ true) ⊎ IsHeld b m.held

pub record IsGood (bytes : List ℕ) (m : Moment) : Type 0 where
  pub sound : IsSound bytes m.ends m.delivered
  pub held : AreRight bytes (next_number m.ends.sender) m.held

pub record Moves (bytes : List ℕ) (b : ℕ) (m later : Moment) : Type 0 where
  pub good : IsGood bytes later
  pub sender : later.ends.sender ≡ m.ends.sender
  pub delivered : later.ends.receiver.delivered ≡ m.ends.receiver.delivered
  pub on : IsOn b m → IsOn b later
  pub out : later.delivered ≡ m.delivered

moves-none : (bytes : List ℕ) (b : ℕ) (m : Moment) → IsGood bytes m → Moves bytes b m m
moves-none bytes b m h = record { good = h; sender = refl; delivered = refl; on = λ p. p; out = refl }

moves-then : {bytes : List ℕ} {b : ℕ} {a c d : Moment} → Moves bytes b a c → Moves bytes b c d → Moves bytes b a d
moves-then {bytes} {b} {a} {c} {d} p q =
    record { good = q.good; sender = q.sender ∙ p.sender; delivered = q.delivered ∙ p.delivered; on = λ o. q.on (p.on o); out = q.out ∙ p.out }

moves-if : (bytes : List ℕ) (b : ℕ) (t : Bool) (m x y : Moment) → Moves bytes b m x → Moves bytes b m y → Moves bytes b m (cond t x y)
moves-if bytes b true m x y p q = p
moves-if bytes b false m x y p q = q

-- an arrival delivers nothing, and what was known stays so

answer_delivered : (r : Receiving) (i : ℕ) (c : Chunk) (answer : Got) → (kept r i c answer).delivered ≡ r.delivered
answer_delivered r i c got.Kept = refl
answer_delivered r i c got.Old = refl
answer_delivered r i c got.Far = refl

arrival_delivered : (r : Receiving) (i : ℕ) (c : Chunk) → (after_arrival r i c).delivered ≡ r.delivered
arrival_delivered r i c = answer_delivered r i c (answer_to r i)

arrival_stays : (r : Receiving) (i b : ℕ) (c : Chunk) → is_known r b ≡ true → is_known (after_arrival r i c) b ≡ true
arrival_stays r i b c known = kept_stays r i b c (answer_to r i) known

arrived_moves : (bytes : List ℕ) (b i : ℕ) (c : Chunk) (m : Moment) → IsGood bytes m → c ≡ chunk_at bytes i → i < next_number m.ends.sender → Moves bytes b m (arrived i c m)
arrived_moves bytes b i c m h is less =
    let r = m.ends.receiver in
    record {
      good = record { sound = subst (λ x. IsSound bytes (ends m.ends.sender (after_arrival r i x)) m.delivered) (sym is) (arrival_sound bytes m.ends m.delivered i h.sound less); held = h.held };
      sender = refl;
      delivered = arrival_delivered r i c;
      on = λ o. ⊎_elim (λ known. inl (arrival_stays r i b c known)) inr o;
      out = refl;
    }

sent_moves : (bytes : List ℕ) (b n fate i : ℕ) (c : Chunk) (m : Moment) → IsGood bytes m → c ≡ chunk_at bytes i → i < next_number m.ends.sender → Moves bytes b m (sent n fate i c m)
sent_moves bytes b n fate i c m h is less =
    let once = arrived_moves bytes b i c m h is less in
    let again = arrived_moves bytes b i c (arrived i c m) once.good is less in
    moves-if bytes b (is_lost n fate) m (one_lost m) _ (record { good = record { sound = h.sound; held = h.held }; sender = refl; delivered = refl; on = λ o. o; out = refl })
    (moves-if bytes b (fate == 1) m (arrived i c (arrived i c m)) _ (moves-then once again)
    (moves-if bytes b (fate == 2) m (held_back i c m) (arrived i c m)
    (record { good = record { sound = h.sound; held = (is, less, h.held) }; sender = refl; delivered = refl; on = λ o. ⊎_elim inl (λ held. inr (inr held)) o; out = refl })
    once))

-- where nothing is lost
sent_on : (bytes : List ℕ) (n fate i : ℕ) (c : Chunk) (m : Moment) → is_lost n fate ≡ false → IsGood bytes m → i < m.ends.receiver.delivered + 8 → IsOn i (sent n fate i c m)
sent_on bytes n fate i c m safe h within =
    let r = m.ends.receiver in
    let wide = h.sound.wide in
    let here : is_known (after_arrival r i c) i ≡ true = arrived_known r i c (omega arith) in
    cond_both (is_lost n fate) (one_lost m) _ (IsOn i)
    (λ lost. absurd (let two : false ≡ true = sym safe ∙ lost in cc))
    (λ _.
    cond_both (fate == 1) (arrived i c (arrived i c m)) _ (IsOn i)
    (λ _. inl (arrival_stays (after_arrival r i c) i i c here))
    (λ _. cond_both (fate == 2) (held_back i c m) (arrived i c m) (IsOn i) (λ _. inr (inl refl)) (λ _. inl here)))

kept_moves : (bytes : List ℕ) (b n fate i : ℕ) (o : Option Chunk) (m : Moment) → IsGood bytes m → emitted m.ends.sender i ≡ o → Moves bytes b m (sent_if_kept n fate i o m)
kept_moves bytes b n fate i None m h q = moves-none bytes b m h
kept_moves bytes b n fate i (Some c) m h q =
    let is = emitted_sound bytes m.ends m.delivered i c h.sound q in
    sent_moves bytes b n fate i c m h is.0 is.1

pub emission_moves : (bytes : List ℕ) (b n i : ℕ) (m : Moment) → IsGood bytes m → Moves bytes b m (emission n i m)
unfolding emission
emission_moves bytes b n i m h =
    let x = next_state m.state in
    let next : Moment = record m { state = x; emitted = m.emitted + 1 } in
    let start : Moves bytes b m next = record { good = record { sound = h.sound; held = h.held }; sender = refl; delivered = refl; on = λ o. o; out = refl } in
    moves-then start
    (kept_moves bytes b n (number_of x % 4) i (emitted m.ends.sender i) next (record { sound = h.sound; held = h.held }) refl)

kept_on : (bytes : List ℕ) (n fate i : ℕ) (o : Option Chunk) (c : Chunk) (m : Moment) → is_lost n fate ≡ false → IsGood bytes m → o ≡ Some c → i < m.ends.receiver.delivered + 8 → IsOn i (sent_if_kept n fate i o m)
kept_on bytes n fate i o c m safe h e within = subst (λ x. IsOn i (sent_if_kept n fate i x m)) (sym e) (sent_on bytes n fate i c m safe h within)

emission_on : (bytes : List ℕ) (n i : ℕ) (c : Chunk) (m : Moment) → ((fate : ℕ) → is_lost n fate ≡ false) → IsGood bytes m → emitted m.ends.sender i ≡ Some c → i < m.ends.receiver.delivered + 8 → IsOn i (emission n i m)
unfolding emission
emission_on bytes n i c m safe h e within =
    let x = next_state m.state in
    let next : Moment = record m { state = x; emitted = m.emitted + 1 } in
    kept_on bytes n (number_of x % 4) i (emitted m.ends.sender i) c next (safe (number_of x % 4)) (record { sound = h.sound; held = h.held }) e within

pub emissions_move : (bytes : List ℕ) (b n from k : ℕ) (m : Moment) → IsGood bytes m → Moves bytes b m (emissions n from k m)
emissions_move bytes b n from zero m h = moves-none bytes b m h
emissions_move bytes b n from (suc k) m h =
    let before = emissions_move bytes b n from k m h in
    moves-then before (emission_moves bytes b n (from + k) (emissions n from k m) before.good)

-- where nothing is lost, each of them is known or held at the end
emissions_on : (bytes : List ℕ) (n from k : ℕ) (m : Moment) → ((fate : ℕ) → is_lost n fate ≡ false) → IsGood bytes m → Keeps m.ends.sender from k → from + k ≤ m.ends.receiver.delivered + 8 → (j : ℕ) → j < k → IsOn (from + j) (emissions n from k m)
emissions_on bytes n from zero m safe h keeps within j less = absurd (omega (arith, less))
emissions_on bytes n from (suc k) m safe h keeps within j less =
    let before = emissions n from k m in
    let moves = emissions_move bytes (from + j) n from k m h in
    ⊎_elim
    (λ (earlier : j < k).
    (emission_moves bytes (from + j) n (from + k) before moves.good).on
    (emissions_on bytes n from k m safe h (λ i l. keeps i (omega (arith, l))) (omega (arith, within)) j earlier))
    (λ (last : k ≤ j).
    let same : k ≡ j = omega (arith, less, last) in
    let kept = keeps k (omega arith) in
    let e : emitted before.ends.sender (from + k) ≡ Some kept.0 = ap (λ s. emitted s (from + k)) moves.sender ∙ kept.1 in
    subst (λ i. IsOn (from + i) (emission n (from + k) before)) same
    (emission_on bytes n (from + k) kept.0 before safe moves.good e (omega (arith, within, moves.delivered))))
    (cases_lt j k)

pub all_sent_moves : (bytes : List ℕ) (b n : ℕ) (m : Moment) → IsGood bytes m → Moves bytes b m (all_sent n m)
unfolding all_sent
all_sent_moves bytes b n m h = emissions_move bytes b n m.ends.sender.base (length m.ends.sender.kept) m h

pub all_sent_on : (bytes : List ℕ) (n : ℕ) (m : Moment) → ((fate : ℕ) → is_lost n fate ≡ false) → IsGood bytes m → (j : ℕ) → j < length m.ends.sender.kept → IsOn (m.ends.sender.base + j) (all_sent n m)
unfolding all_sent
all_sent_on bytes n m safe h =
    emissions_on bytes n m.ends.sender.base (length m.ends.sender.kept) m safe h (keeps_all m.ends.sender) (omega (arith, h.sound.base, h.sound.fits))

-- What is held arrives.

pub record AreReleased (bytes : List ℕ) (m later : Moment) : Type 0 where
  pub sound : IsSound bytes later.ends later.delivered
  pub sender : later.ends.sender ≡ m.ends.sender
  pub delivered : later.ends.receiver.delivered ≡ m.ends.receiver.delivered
  pub out : later.delivered ≡ m.delivered

releases_released : (bytes : List ℕ) (held : List (ℕ × Chunk)) (m : Moment) → IsSound bytes m.ends m.delivered → AreRight bytes (next_number m.ends.sender) held → AreReleased bytes m (releases held m)
releases_released bytes [] m h right = record { sound = h; sender = refl; delivered = refl; out = refl }
releases_released bytes ((i, c) ∷ held) m h right =
    let next : Moment = record m { held = held } in
    let here = arrived_moves bytes 0 i c next (record { sound = h; held = right.2 }) right.0 right.1 in
    let then = releases_released bytes held (arrived i c next) here.good.sound right.2 in
    record { sound = then.sound; sender = then.sender; delivered = then.delivered ∙ here.delivered; out = then.out }

pub released_released : (bytes : List ℕ) (m : Moment) → IsGood bytes m → AreReleased bytes m (released m)
unfolding released
released_released bytes m h = releases_released bytes m.held m h.sound h.held

releases_known : (bytes : List ℕ) (b : ℕ) (held : List (ℕ × Chunk)) (m : Moment) → IsSound bytes m.ends m.delivered → AreRight bytes (next_number m.ends.sender) held → b < m.ends.receiver.delivered + 8 → (is_known m.ends.receiver b ≡ true) ⊎ IsHeld b held → is_known (releases held m).ends.receiver b ≡ true
releases_known bytes b [] m h right within on = ⊎_elim (λ known. known) (λ none. absurd none) on
releases_known bytes b ((i, c) ∷ held) m h right within on =
    let next : Moment = record m { held = held } in
    let r = m.ends.receiver in
    let here = arrived_moves bytes 0 i c next (record { sound = h; held = right.2 }) right.0 right.1 in
    let wide = h.wide in
    releases_known bytes b held (arrived i c next) here.good.sound right.2 (omega (arith, here.delivered))
    (⊎_elim
    (λ known. inl (arrival_stays r i b c known))
    (λ is_held.
    ⊎_elim
    (λ (same : i ≡ b). inl (subst (λ j. is_known (after_arrival r i c) j ≡ true) same (arrived_known r i c (omega arith))))
    inr
    is_held)
    on)

pub released_known : (bytes : List ℕ) (b : ℕ) (m : Moment) → IsGood bytes m → b < m.ends.receiver.delivered + 8 → IsOn b m → is_known (released m).ends.receiver b ≡ true
unfolding released
released_known bytes b m h within on = releases_known bytes b m.held m h.sound h.held within on

releases_none : (held : List (ℕ × Chunk)) (m : Moment) → m.held ≡ held → (releases held m).held ≡ []
releases_none [] m e = e
releases_none ((i, c) ∷ held) m e = releases_none held (arrived i c (record m { held = held })) refl

pub released_none : (m : Moment) → (released m).held ≡ []
unfolding released
released_none m = releases_none m.held m refl

-- All that the receiver gives is delivered.

pub record AreDelivered (bytes : List ℕ) (m later : Moment) : Type 0 where
  pub sound : IsSound bytes later.ends later.delivered
  pub sender : later.ends.sender ≡ m.ends.sender
  pub held : later.held ≡ m.held
  pub ack : ack_of later.ends.receiver ≡ ack_of m.ends.receiver
  pub empty : prefix_len is_some later.ends.receiver.ahead ≡ 0

-- a delivery leaves the acknowledgement as it is
delivery_ack : (r : Receiving) (c : Chunk) → next_chunk r ≡ Some c → ack_of (passed r (Some c)) ≡ ack_of r
delivery_ack r c e = omega (arith, prefix_len-slid r.ahead c e)

some_first : (r : Receiving) (k : ℕ) → suc k ≡ prefix_len is_some r.ahead → is_some (next_chunk r) ≡ true
some_first r k e = prefix_len_passes is_some r.ahead 0 None (omega arith)

given_delivered : (bytes : List ℕ) (k : ℕ) (o : Option Chunk) (m : Moment) → IsSound bytes m.ends m.delivered → suc k ≡ prefix_len is_some m.ends.receiver.ahead → next_chunk m.ends.receiver ≡ o → ((next : Moment) → IsSound bytes next.ends next.delivered → k ≡ prefix_len is_some next.ends.receiver.ahead → AreDelivered bytes next (deliveries k next)) → AreDelivered bytes m (deliveries k (given o m))
given_delivered bytes k None m h e q rest = absurd (let none : false ≡ true = sym (ap is_some q) ∙ some_first m.ends.receiver k e in cc)
given_delivered bytes k (Some c) m h e q rest =
    let r = m.ends.receiver in
    let is : after_next r ≡ passed r (Some c) = ap (passed r) q in
    let next : Moment = given (Some c) m in
    let sound : IsSound bytes next.ends next.delivered = subst (λ x. IsSound bytes (ends m.ends.sender x) (m.delivered ++ c)) (sym is) (delivery_sound bytes m.ends m.delivered c h q) in
    let ack : ack_of next.ends.receiver ≡ ack_of r = ap ack_of is ∙ delivery_ack r c q in
    let fewer : k ≡ prefix_len is_some next.ends.receiver.ahead =
    let slid = prefix_len-slid r.ahead c q in
    let at : prefix_len is_some next.ends.receiver.ahead ≡ prefix_len is_some (passed r (Some c)).ahead = ap (λ x. prefix_len is_some x.ahead) is in
    omega arith in
    let then = rest next sound fewer in
    record { sound = then.sound; sender = then.sender; held = then.held; ack = then.ack ∙ ack; empty = then.empty }

deliveries_delivered : (bytes : List ℕ) (k : ℕ) (m : Moment) → IsSound bytes m.ends m.delivered → k ≡ prefix_len is_some m.ends.receiver.ahead → AreDelivered bytes m (deliveries k m)
deliveries_delivered bytes zero m h e = record { sound = h; sender = refl; held = refl; ack = refl; empty = sym e }
deliveries_delivered bytes (suc k) m h e = given_delivered bytes k (next_chunk m.ends.receiver) m h e refl (deliveries_delivered bytes k)

pub all_delivered_delivered : (bytes : List ℕ) (m : Moment) → IsSound bytes m.ends m.delivered → AreDelivered bytes m (all_delivered m)
unfolding all_delivered
all_delivered_delivered bytes m h = deliveries_delivered bytes (prefix_len is_some m.ends.receiver.ahead) m h refl
