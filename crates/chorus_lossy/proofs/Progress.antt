-- The run ends, and what it has delivered then.
use Rattle.std.proofs.Common.{◌≡◌, ℕ, zero, suc, ◌+◌, ◌-◌, ◌*◌, ◌/◌, ◌%◌, ◌<◌, ◌≤◌, ⊎_elim, Bool, true, false, cond, List, [], length, get_or, min, Option, None, Some, is_some, refl, sym, ◌∙◌, ap, subst, arith}
use Rattle.std.specs.Prelude.{◌==◌, not}
use Rattle.std.specs.List.{prefix_len}
use Rattle.std.proofs.lemmas.Bool.{or_left, lt-ltb, cond_both, cond-false, cond-true, cases_lt, cases_eq, and_right, not_from_true, eqb-true, eq-eqb, lt-leb, le-leb}
use Rattle.std.proofs.lemmas.Grind.{div_ceil_times}
use Rattle.std.proofs.lemmas.List.{length-take, take_all}
use Rattle.std.proofs.lemmas.List.Sums.{prefix_len_passes}
use Rattle.chorus_transport.specs.declared.chunk.Chunk.{Chunk}
use Rattle.chorus_draw.specs.Draws.{next_state, number_of}
use Rattle.chorus_transport.specs.Sending.{Sending, next_number, answer_to, after_ack, moved}
use Rattle.chorus_transport.specs.declared.sender.Acked.{Acked}
use Rattle.chorus_transport.specs.declared.sender.Acked.TheVariants as acked
use Rattle.chorus_transport.specs.Receiving.{ack_of, is_known}
use Rattle.chorus_transport.proofs.PlaceLemmas.{acknowledges}
use Rattle.chorus_lossy.specs.Line.{Ends, Hear, chunk_count, window_count}
use Rattle.chorus_lossy.specs.Rounds.{Moment, happened, one_lost, is_lost, filled, all_sent, released, all_delivered, heard, acknowledged, is_done, unless_done, round, opening, after_rounds}
use Rattle.chorus_lossy.proofs.Counts.{Counts, counts-round}
use Rattle.chorus_lossy.proofs.Soundness.{IsSound, opening_sound, ack_sound}
use Rattle.chorus_lossy.proofs.Parts.{filled_put, IsGood, AreRight, IsOn, all_sent_moves, all_sent_on, released_released, released_known, released_none, all_delivered_delivered}

-- What is delivered, by its count.

pub count_covers : (bytes : List ℕ) → length bytes ≤ chunk_count bytes * 64
count_covers bytes = (div_ceil_times (length bytes) 64 (omega arith)).0

count_least : (bytes : List ℕ) (d : ℕ) → length bytes ≤ d * 64 → chunk_count bytes ≤ d
count_least bytes d le = let above = (div_ceil_times (length bytes) 64 (omega arith)).1 in omega arith

pub done_count : (bytes : List ℕ) (m : Moment) → IsSound bytes m.ends m.delivered → is_done bytes m ≡ true → m.ends.receiver.delivered ≡ chunk_count bytes
done_count bytes m h e =
    let d = m.ends.receiver.delivered in
    let all : length m.delivered ≡ length bytes = eqb-true (length m.delivered) (length bytes) e in
    let most : length m.delivered ≡ min (d * 64) (length bytes) = ap length h.front ∙ length-take (d * 64) bytes in
    let least = count_least bytes d (omega arith) in
    let upto = h.upto in
    let put = h.put in
    omega arith

pub not_done_count : (bytes : List ℕ) (m : Moment) → IsSound bytes m.ends m.delivered → is_done bytes m ≡ false → m.ends.receiver.delivered < chunk_count bytes
not_done_count bytes m h e =
    ⊎_elim
    (λ (l : m.ends.receiver.delivered < chunk_count bytes). l)
    (λ (g : chunk_count bytes ≤ m.ends.receiver.delivered).
    let covers = count_covers bytes in
    let all : m.delivered ≡ bytes = h.front ∙ take_all (m.ends.receiver.delivered * 64) bytes (omega arith) in
    absurd (let two : false ≡ true = sym e ∙ eq-eqb _ _ (ap length all) in cc))
    (cases_lt m.ends.receiver.delivered (chunk_count bytes))

pub done_bytes : (bytes : List ℕ) (m : Moment) → IsSound bytes m.ends m.delivered → is_done bytes m ≡ true → m.delivered ≡ bytes
done_bytes bytes m h e =
    let d = done_count bytes m h e in
    let covers = count_covers bytes in
    h.front ∙ take_all (m.ends.receiver.delivered * 64) bytes (omega arith)

pub done_put : (bytes : List ℕ) (m : Moment) → IsSound bytes m.ends m.delivered → is_done bytes m ≡ true → next_number m.ends.sender ≡ chunk_count bytes
done_put bytes m h e =
    let d = done_count bytes m h e in
    let upto = h.upto in
    let put = h.put in
    omega arith

is_some_value : {A : Type 0} (o : Option A) → is_some o ≡ true → (x : A) × (o ≡ Some x)
is_some_value None e = cc
is_some_value (Some x) e = (x, refl)

-- the acknowledgement is of what was put
pub ack_within : (bytes : List ℕ) (e : Ends) (out : List ℕ) → IsSound bytes e out → ack_of e.receiver ≤ next_number e.sender
ack_within bytes e out h = go (prefix_len is_some e.receiver.ahead) refl
  where
    go : (k : ℕ) → prefix_len is_some e.receiver.ahead ≡ k → e.receiver.delivered + prefix_len is_some e.receiver.ahead ≤ next_number e.sender
    go zero q = let upto = h.upto in omega arith
    go (suc k) q =
        let filled = prefix_len is_some e.receiver.ahead in
        let last : (x : Chunk) × (get_or e.receiver.ahead (filled - 1) None ≡ Some x) = is_some_value (get_or e.receiver.ahead (filled - 1) None) (prefix_len_passes is_some e.receiver.ahead (filled - 1) None (omega arith)) in
        let below = (h.ahead (filled - 1) last.0 last.1).1 in
        omega arith

pub done_ack : (bytes : List ℕ) (m : Moment) → IsSound bytes m.ends m.delivered → is_done bytes m ≡ true → ack_of m.ends.receiver ≡ chunk_count bytes
done_ack bytes m h e =
    let d = done_count bytes m h e in
    let within = ack_within bytes m.ends m.delivered h in
    let put = h.put in
    omega arith

-- A round.

-- what is so where a round begins
pub record Begins (bytes : List ℕ) (m : Moment) : Type 0 where
  pub sound : IsSound bytes m.ends m.delivered
  pub held : m.held ≡ []

-- where all was delivered that is to be in this round
pub record Arrives (bytes : List ℕ) (m later : Moment) : Type 0 where
  pub sound : IsSound bytes later.ends later.delivered
  pub held : later.held ≡ []
  pub base : later.ends.sender.base ≡ m.ends.sender.base
  pub empty : prefix_len is_some later.ends.receiver.ahead ≡ 0

right_none : (bytes : List ℕ) (next : ℕ) (held : List (ℕ × Chunk)) → held ≡ [] → AreRight bytes next held
right_none bytes next held e = subst (AreRight bytes next) (sym e) tt

abbrev last : List ℕ → ℕ → Moment → Moment
last bytes n m = all_delivered (released (all_sent n (filled bytes m)))

filled_good : (bytes : List ℕ) (m : Moment) → Begins bytes m → IsGood bytes (filled bytes m)
filled_good bytes m h =
    let f = filled_put bytes m h.sound in
    record { sound = f.sound; held = right_none bytes _ _ (f.held ∙ h.held) }

last_arrives : (bytes : List ℕ) (n : ℕ) (m : Moment) → Begins bytes m → Arrives bytes m (last bytes n m)
last_arrives bytes n m h =
    let f = filled_put bytes m h.sound in
    let s = all_sent_moves bytes 0 n (filled bytes m) (filled_good bytes m h) in
    let r = released_released bytes (all_sent n (filled bytes m)) s.good in
    let d = all_delivered_delivered bytes (released (all_sent n (filled bytes m))) r.sound in
    record {
      sound = d.sound;
      held = d.held ∙ released_none (all_sent n (filled bytes m));
      base = ap (λ x. x.base) (d.sender ∙ r.sender ∙ s.sender) ∙ f.base;
      empty = d.empty;
    }

nothing_lost : (n fate : ℕ) → n % 4 ≡ 0 → is_lost n fate ≡ false
nothing_lost n fate e = and_right (fate == 0) (not (n % 4 == 0)) (not_from_true (n % 4 == 0) (eq-eqb (n % 4) 0 e))

-- where nothing is lost, all that was put is delivered
last_all : (bytes : List ℕ) (n : ℕ) (m : Moment) → Begins bytes m → n % 4 ≡ 0 → next_number (filled bytes m).ends.sender ≤ (last bytes n m).ends.receiver.delivered
last_all bytes n m h lossless =
    let full = filled bytes m in
    let good = filled_good bytes m h in
    let s = all_sent_moves bytes 0 n full good in
    let r = released_released bytes (all_sent n full) s.good in
    let d = all_delivered_delivered bytes (released (all_sent n full)) r.sound in
    let base = good.sound.base in
    let fits = good.sound.fits in
    let known : (i : ℕ) → i < next_number full.ends.sender → is_known (released (all_sent n full)).ends.receiver i ≡ true =
    λ i below.
    ⊎_elim
    (λ (before : i < full.ends.sender.base). or_left _ _ (lt-ltb i (released (all_sent n full)).ends.receiver.delivered (omega (arith, before, base, s.delivered, r.delivered))))
    (λ (from : full.ends.sender.base ≤ i).
    let k = i - full.ends.sender.base in
    let at : full.ends.sender.base + k ≡ i = omega (arith, from) in
    let on = all_sent_on bytes n full (λ fate. nothing_lost n fate lossless) good k (omega (arith, at, below)) in
    released_known bytes i (all_sent n full) s.good (omega (arith, below, base, fits, s.delivered)) (subst (λ j. IsOn j (all_sent n full)) at on))
    (cases_lt i full.ends.sender.base) in
    omega (arith, acknowledges (released (all_sent n full)).ends.receiver (next_number full.ends.sender) known, d.ack, d.empty)

-- The acknowledgement.

pub record IsAcknowledged (bytes : List ℕ) (m later : Moment) : Type 0 where
  pub sound : IsSound bytes later.ends later.delivered
  pub held : later.held ≡ m.held
  pub base : m.ends.sender.base ≤ later.ends.sender.base
  pub receiver : later.ends.receiver ≡ m.ends.receiver

acknowledged-if : (bytes : List ℕ) (t : Bool) (m x y : Moment) → IsAcknowledged bytes m x → IsAcknowledged bytes m y → IsAcknowledged bytes m (cond t x y)
acknowledged-if bytes true m x y p q = p
acknowledged-if bytes false m x y p q = q

moved_base : (s : Sending) (answer : Acked) → s.base ≤ (moved s answer).base
moved_base s (acked.Moved by) = omega arith
moved_base s acked.Old = omega arith
moved_base s acked.Beyond = omega arith

heard_acknowledged : (bytes : List ℕ) (n fate : ℕ) (m : Moment) → IsSound bytes m.ends m.delivered → prefix_len is_some m.ends.receiver.ahead ≡ 0 → IsAcknowledged bytes m (heard n fate m)
heard_acknowledged bytes n fate m h empty =
    acknowledged-if bytes (is_lost n fate) m (one_lost m) (happened (Hear (ack_of m.ends.receiver)) m) (record { sound = h; held = refl; base = omega arith; receiver = refl })
    (record { sound = ack_sound bytes m.ends m.delivered (ack_of m.ends.receiver) h (omega arith); held = refl; base = moved_base m.ends.sender (answer_to m.ends.sender (ack_of m.ends.receiver)); receiver = refl })

acknowledged_acknowledged : (bytes : List ℕ) (n : ℕ) (m : Moment) → IsSound bytes m.ends m.delivered → prefix_len is_some m.ends.receiver.ahead ≡ 0 → IsAcknowledged bytes m (acknowledged n m)
unfolding acknowledged
acknowledged_acknowledged bytes n m h empty =
    let a = heard_acknowledged bytes n (number_of (next_state m.state) % 4) (record m { state = next_state m.state }) h empty in
    record { sound = a.sound; held = a.held; base = a.base; receiver = a.receiver }

moved_to : (s : Sending) (upto : ℕ) → s.base < upto → upto ≤ next_number s → (after_ack s upto).base ≡ upto
moved_to s upto above within =
    let rest : s.base + (upto - s.base) ≡ upto = omega arith in
    ap (λ a. (moved s a).base) (cond-false _ acked.Old _ (lt-leb upto s.base above) ∙ cond-true _ _ _ (le-leb upto (next_number s) within)) ∙ rest

heard_moves : (n fate : ℕ) (m : Moment) → is_lost n fate ≡ false → m.ends.sender.base < ack_of m.ends.receiver → ack_of m.ends.receiver ≤ next_number m.ends.sender → (heard n fate m).ends.sender.base ≡ ack_of m.ends.receiver
heard_moves n fate m safe above within =
    ap (λ (x : Moment). x.ends.sender.base) (cond-false (is_lost n fate) (one_lost m) (happened (Hear (ack_of m.ends.receiver)) m) safe) ∙ moved_to m.ends.sender (ack_of m.ends.receiver) above within

acknowledged_moves : (n : ℕ) (m : Moment) → n % 4 ≡ 0 → m.ends.sender.base < ack_of m.ends.receiver → ack_of m.ends.receiver ≤ next_number m.ends.sender → (acknowledged n m).ends.sender.base ≡ ack_of m.ends.receiver
unfolding acknowledged
acknowledged_moves n m lossless above within =
    let fate = number_of (next_state m.state) % 4 in
    heard_moves n fate (record m { state = next_state m.state }) (nothing_lost n fate lossless) above within

-- The round as a whole.

pub record IsPlayed (bytes : List ℕ) (m later : Moment) : Type 0 where
  pub begins : Begins bytes later
  pub base : m.ends.sender.base ≤ later.ends.sender.base

unless : (P : Moment → Type 0) (bytes : List ℕ) (next : Moment → Moment) (m : Moment) → (is_done bytes m ≡ true → P m) → (is_done bytes m ≡ false → P (next m)) → P (unless_done bytes next m)
unless P bytes next m p q = cond_both (is_done bytes m) m (next m) P p q

pub round_played : (bytes : List ℕ) (n : ℕ) (m : Moment) → Begins bytes m → IsPlayed bytes m (round bytes n m)
unfolding round
round_played bytes n m h =
    let a = last_arrives bytes n m h in
    let k = acknowledged_acknowledged bytes n (last bytes n m) a.sound a.empty in
    unless (IsPlayed bytes m) bytes (acknowledged n) (last bytes n m)
    (λ _. record { begins = record { sound = a.sound; held = a.held }; base = omega (arith, a.base) })
    (λ _. record { begins = record { sound = k.sound; held = k.held ∙ a.held }; base = omega (arith, a.base, k.base) })

-- a round that loses nothing and does not end the run brings a window more
round_moves : (bytes : List ℕ) (n : ℕ) (m : Moment) → Begins bytes m → n % 4 ≡ 0 → is_done bytes (round bytes n m) ≡ false → m.ends.sender.base + 8 ≤ (round bytes n m).ends.sender.base
unfolding round
round_moves bytes n m h lossless more =
    let l = last bytes n m in
    let f = filled_put bytes m h.sound in
    let a = last_arrives bytes n m h in
    let all = last_all bytes n m h lossless in
    let within = ack_within bytes l.ends l.delivered a.sound in
    unless (λ later. is_done bytes later ≡ false → m.ends.sender.base + 8 ≤ later.ends.sender.base) bytes (acknowledged n) l
    (λ done other. absurd (let two : true ≡ false = sym done ∙ other in cc))
    (λ going _.
    let fewer = not_done_count bytes l a.sound going in
    let put : m.ends.sender.base + 8 ≤ next_number (filled bytes m).ends.sender = omega (arith, f.many, f.base, all, fewer, h.sound.window, h.sound.fits) in
    let moves = acknowledged_moves n l lossless (omega (arith, a.base, a.empty, all, put)) within in
    omega (arith, a.base, a.empty, all, put, moves))
    more

-- All rounds.

pub rounds_begin : (first : ℕ) (bytes : List ℕ) (k : ℕ) → Begins bytes (after_rounds first bytes k)
unfolding after_rounds
rounds_begin first bytes zero = record { sound = opening_sound bytes; held = refl }
rounds_begin first bytes (suc k) =
    let before = rounds_begin first bytes k in
    unless (Begins bytes) bytes (round bytes (suc k)) (after_rounds first bytes k) (λ _. before) (λ _. (round_played bytes (suc k) _ before).begins)

rounds_move : (first : ℕ) (bytes : List ℕ) (k : ℕ) → is_done bytes (after_rounds first bytes k) ≡ false → 8 * (k / 4) ≤ (after_rounds first bytes k).ends.sender.base
unfolding after_rounds
rounds_move first bytes zero more = omega arith
rounds_move first bytes (suc k) more =
    let m = after_rounds first bytes k in
    let begins = rounds_begin first bytes k in
    unless (λ later. is_done bytes later ≡ false → 8 * (suc k / 4) ≤ later.ends.sender.base) bytes (round bytes (suc k)) m
    (λ done more'. absurd (let two : true ≡ false = sym done ∙ more' in cc))
    (λ before more'.
    let far = rounds_move first bytes k before in
    let base = (round_played bytes (suc k) m begins).base in
    ⊎_elim
    (λ (e : suc k % 4 ≡ 0). let moves = round_moves bytes (suc k) m begins e more' in omega arith)
    (λ (ne : suc k % 4 ≡ 0 → ⊥). omega arith)
    (cases_eq (suc k % 4) 0))
    more

-- the run is done after so many rounds at most
pub rounds_end : (first : ℕ) (bytes : List ℕ) (k : ℕ) → is_done bytes (after_rounds first bytes k) ≡ false → k < 4 * window_count bytes
rounds_end first bytes k more =
    let far = rounds_move first bytes k more in
    let h = (rounds_begin first bytes k).sound in
    let fewer = not_done_count bytes (after_rounds first bytes k) h more in
    let base = h.base in
    let covers = (div_ceil_times (chunk_count bytes) 8 (omega arith)).0 in
    omega arith

pub rounds_count : (first : ℕ) (bytes : List ℕ) (k : ℕ) → Counts (8 * k) (9 * k) (opening first) (after_rounds first bytes k)
unfolding after_rounds
rounds_count first bytes zero = record { emissions = omega arith; losses = omega arith }
rounds_count first bytes (suc k) =
    let m = after_rounds first bytes k in
    let before = rounds_count first bytes k in
    let f = filled_put bytes m (rounds_begin first bytes k).sound in
    let here = counts-round bytes (suc k) m f.sound.fits in
    unless (Counts (8 * suc k) (9 * suc k) (opening first)) bytes (round bytes (suc k)) m
    (λ _. record { emissions = omega (arith, before.emissions); losses = omega (arith, before.losses) })
    (λ _. record { emissions = omega (arith, before.emissions, here.emissions); losses = omega (arith, before.losses, here.losses) })
