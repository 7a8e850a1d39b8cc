-- What the caller of the rounds needs of them.
use Rattle.std.proofs.Common.{◌≡◌, ◌≢◌, ℕ, zero, suc, ◌+◌, ◌-◌, ◌*◌, ◌≤◌, true, false, List, [], length, refl, sym, ◌∙◌, ap, subst, arith, append-nil}
use Rattle.std.proofs.lemmas.Bool.{cond-false, cond-true, eq-eqb, ne_eqb}
use Rattle.chorus_transport.specs.Sending.{Sending, next_number}
use Rattle.chorus_transport.specs.Receiving.{Receiving, ack_of}
use Rattle.chorus_lossy.specs.declared.rounds.Run.{Run}
use Rattle.chorus_lossy.specs.Line.{Ends, Event, ends, new_ends, after, chunk_count, window_count}
use Rattle.chorus_lossy.specs.Rounds.{Moment, filled, all_sent, released, all_delivered, acknowledged, is_done, round, opening, after_rounds}
use Rattle.chorus_lossy.specs.Running.{IsAt, IsBetween}
use Rattle.chorus_lossy.specs.Carrying.{IsCarried, IsWithin}
use Rattle.chorus_lossy.proofs.Growth.{grows-then, grows-rounds}
use Rattle.chorus_lossy.proofs.Progress.{rounds_begin, rounds_end, rounds_count, done_bytes, done_put, done_ack}
use Rattle.chorus_lossy.proofs.Running.{at-from}

pub opens : (first : ℕ) (bytes : List ℕ) (run : Run) (s : Sending) (r : Receiving) → ends s r ≡ new_ends → run.state ≡ first → run.held.items ≡ [] → run.delivered.items ≡ [] → run.emitted ≡ 0 → run.lost ≡ 0 → IsAt (after_rounds first bytes 0) run s r
unfolding after_rounds
opens first bytes run s r new state held delivered emitted lost =
    at-from (opening first) run s r [] (rw (new, state, held, delivered, emitted, lost) refl)

-- whether all is delivered, by the code's values
pub open_at : (bytes : List ℕ) (m : Moment) (run : Run) (s : Sending) (r : Receiving) → IsAt m run s r → length run.delivered.items ≢ length bytes → is_done bytes m ≡ false
open_at bytes m run s r e other =
    ne_eqb (length m.delivered) (length bytes) (λ same. other (sym (ap (λ x. length x.delivered) e) ∙ same))

pub done_at : (bytes : List ℕ) (m : Moment) (run : Run) (s : Sending) (r : Receiving) → IsAt m run s r → length run.delivered.items ≡ length bytes → is_done bytes m ≡ true
done_at bytes m run s r e same = eq-eqb (length m.delivered) (length bytes) (ap (λ x. length x.delivered) e ∙ same)

pub next_round : (first : ℕ) (bytes : List ℕ) (n : ℕ) → 1 ≤ n → is_done bytes (after_rounds first bytes (n - 1)) ≡ false → round bytes n (after_rounds first bytes (n - 1)) ≡ after_rounds first bytes (n + 1 - 1)
unfolding after_rounds
next_round first bytes zero from more = absurd (omega arith)
next_round first bytes (suc k) from more =
    let one : suc k - 1 ≡ k = omega arith in
    let two : suc k + 1 - 1 ≡ suc k = omega arith in
    let before : is_done bytes (after_rounds first bytes k) ≡ false = ap (λ j. is_done bytes (after_rounds first bytes j)) (sym one) ∙ more in
    ap (λ j. round bytes (suc k) (after_rounds first bytes j)) one
    ∙ sym (cond-false (is_done bytes (after_rounds first bytes k)) _ (round bytes (suc k) (after_rounds first bytes k)) before)
    ∙ ap (after_rounds first bytes) (sym two)

within_rounds : (first : ℕ) (bytes : List ℕ) (k j : ℕ) (e : Ends) → IsBetween (after_rounds first bytes k) (after_rounds first bytes j) e → IsWithin first bytes e
within_rounds first bytes k j e i =
    let g = grows-then (grows-rounds first bytes k) i.from in
    record {
      rounds = j;
      later = i.to.since;
      past = i.mid.events;
      split = i.to.events;
      ends = i.ends ∙ g.ends ∙ ap (λ (es : List Event). after es new_ends) (sym (g.events ∙ append-nil g.since));
    }

pub failed_within : (first : ℕ) (bytes : List ℕ) (n : ℕ) (e : Ends) → 1 ≤ n → is_done bytes (after_rounds first bytes (n - 1)) ≡ false → IsBetween (after_rounds first bytes (n - 1)) (round bytes n (after_rounds first bytes (n - 1))) e → IsWithin first bytes e
failed_within first bytes n e from more i =
    within_rounds first bytes (n - 1) (n + 1 - 1) e (subst (λ later. IsBetween (after_rounds first bytes (n - 1)) later e) (next_round first bytes n from more) i)

-- what is so where a round begins
pub record IsReady (bytes : List ℕ) (n : ℕ) (run : Run) (s : Sending) : Type 0 where
  pub window : s.window ≡ 8
  pub emitted : run.emitted ≤ 8 * (n - 1)
  pub lost : run.lost ≤ 9 * (n - 1)
  pub few : n ≤ 4 * window_count bytes

pub ready_at : (first : ℕ) (bytes : List ℕ) (n : ℕ) (run : Run) (s : Sending) (r : Receiving) → 1 ≤ n → IsAt (after_rounds first bytes (n - 1)) run s r → length run.delivered.items ≢ length bytes → IsReady bytes n run s
ready_at first bytes n run s r from e other =
    let m = after_rounds first bytes (n - 1) in
    let few = rounds_end first bytes (n - 1) (open_at bytes m run s r e other) in
    let counts = rounds_count first bytes (n - 1) in
    let emitted = ap (λ x. x.emitted) e in
    let lost = ap (λ x. x.lost) e in
    record {
      window = sym (ap (λ x. x.ends.sender.window) e) ∙ (rounds_begin first bytes (n - 1)).sound.window;
      emitted = omega (arith, counts.emissions, emitted);
      lost = omega (arith, counts.losses, lost);
      few = omega (arith, few);
    }

-- what is promised, where all is delivered
pub record IsFinal (first : ℕ) (bytes : List ℕ) (run : Run) (s : Sending) (r : Receiving) : Type 0 where
  pub delivered : run.delivered.items ≡ bytes
  pub carried : IsCarried first bytes run.emitted run.lost (ends s r)
  pub put : next_number s ≡ chunk_count bytes
  pub acknowledged : ack_of r ≡ chunk_count bytes

pub final_at : (first : ℕ) (bytes : List ℕ) (k : ℕ) (run : Run) (s : Sending) (r : Receiving) → k ≤ 4 * window_count bytes → IsAt (after_rounds first bytes k) run s r → length run.delivered.items ≡ length bytes → IsFinal first bytes run s r
final_at first bytes k run s r soon e same =
    let m = after_rounds first bytes k in
    let done = done_at bytes m run s r e same in
    let sound = (rounds_begin first bytes k).sound in
    record {
      delivered = sym (ap (λ x. x.delivered) e) ∙ done_bytes bytes m sound done;
      carried = record {
        rounds = k;
        soon = soon;
        done = done;
        emissions = sym (ap (λ x. x.emitted) e);
        losses = sym (ap (λ x. x.lost) e);
        ends = sym (ap (λ x. x.ends) e);
      };
      put = sym (ap (λ x. next_number x.ends.sender) e) ∙ done_put bytes m sound done;
      acknowledged = sym (ap (λ x. ack_of x.ends.receiver) e) ∙ done_ack bytes m sound done;
    }

-- a round, where all is delivered in its midst, and where not
pub round_done : (bytes : List ℕ) (n : ℕ) (m : Moment) → is_done bytes (all_delivered (released (all_sent n (filled bytes m)))) ≡ true → all_delivered (released (all_sent n (filled bytes m))) ≡ round bytes n m
unfolding round
round_done bytes n m done = sym (cond-true (is_done bytes (all_delivered (released (all_sent n (filled bytes m))))) _ _ done)

pub round_open : (bytes : List ℕ) (n : ℕ) (m : Moment) → is_done bytes (all_delivered (released (all_sent n (filled bytes m)))) ≡ false → acknowledged n (all_delivered (released (all_sent n (filled bytes m)))) ≡ round bytes n m
unfolding round
round_open bytes n m more = sym (cond-false (is_done bytes (all_delivered (released (all_sent n (filled bytes m))))) _ _ more)
