-- The run as a whole: once all is delivered, nothing changes any more.
use Rattle.std.proofs.Common.{◌≡◌, ℕ, zero, suc, ◌*◌, ◌<◌, ◌≤◌, ⊎_elim, true, List, [], refl, sym, ◌∙◌, ap, ap₂, arith, append-nil}
use Rattle.std.proofs.lemmas.Bool.{cond-true, cases_lt}
use Rattle.chorus_transport.specs.Sending.{next_number}
use Rattle.chorus_transport.specs.Receiving.{ack_of}
use Rattle.chorus_lossy.specs.Line.{Ends, Event, new_ends, after, chunk_count, window_count}
use Rattle.chorus_lossy.specs.Rounds.{Moment, is_done, after_rounds}
use Rattle.chorus_lossy.specs.Carrying.{IsCarried, IsWithin}
use Rattle.chorus_lossy.specs.Output.{HasCarried, whole_run, text_with, lossy_text}
use Rattle.chorus_lossy.proofs.Growth.{grows-rounds}

stays : (first : ℕ) (bytes : List ℕ) (k n : ℕ) → k ≤ n → is_done bytes (after_rounds first bytes k) ≡ true → after_rounds first bytes n ≡ after_rounds first bytes k
unfolding after_rounds
stays first bytes k zero le done = let same : 0 ≡ k = omega arith in ap (after_rounds first bytes) same
stays first bytes k (suc n) le done =
    ⊎_elim
    (λ (less : k < suc n).
    let before = stays first bytes k n (omega arith) done in
    cond-true (is_done bytes (after_rounds first bytes n)) _ _ (ap (is_done bytes) before ∙ done) ∙ before)
    (λ (ge : suc n ≤ k). let same : suc n ≡ k = omega arith in ap (after_rounds first bytes) same)
    (cases_lt k (suc n))

-- the moment at which it was carried is that of the whole run
whole : (first : ℕ) (bytes : List ℕ) (counted lost : ℕ) (e : Ends) → (c : IsCarried first bytes counted lost e) → after_rounds first bytes c.rounds ≡ whole_run first bytes
whole first bytes counted lost e c = sym (stays first bytes c.rounds (4 * window_count bytes) c.soon c.done)

pub has_carried : (first : ℕ) (bytes : List ℕ) (emitted lost : ℕ) (e : Ends) → IsCarried first bytes emitted lost e → next_number e.sender ≡ chunk_count bytes → ack_of e.receiver ≡ chunk_count bytes → HasCarried first bytes e
has_carried first bytes emitted lost e c put acknowledged =
    record { ends = c.ends ∙ ap (λ (m : Moment). m.ends) (whole first bytes emitted lost e c); put = put; acknowledged = acknowledged }

pub text_of_run : (first : ℕ) (bytes delivered : List ℕ) (emitted lost : ℕ) (e : Ends) → IsCarried first bytes emitted lost e → delivered ≡ bytes → text_with delivered emitted lost ≡ lossy_text first bytes
text_of_run first bytes delivered emitted lost e c same =
    let run = whole first bytes emitted lost e c in
    let one : emitted ≡ (whole_run first bytes).emitted = c.emissions ∙ ap (λ (m : Moment). m.emitted) run in
    let two : lost ≡ (whole_run first bytes).lost = c.losses ∙ ap (λ (m : Moment). m.lost) run in
    ap (λ bs. text_with bs emitted lost) same ∙ ap₂ (text_with bytes) one two

-- before anything happened, and after all

pub within_opening : (first : ℕ) (bytes : List ℕ) (e : Ends) → e ≡ new_ends → IsWithin first bytes e
unfolding after_rounds
within_opening first bytes e is = record { rounds = 0; later = []; past = []; split = refl; ends = is }

pub within_all : (first : ℕ) (bytes : List ℕ) (emitted lost : ℕ) (e : Ends) → IsCarried first bytes emitted lost e → IsWithin first bytes e
within_all first bytes emitted lost e c =
    let g = grows-rounds first bytes c.rounds in
    record {
      rounds = c.rounds;
      later = [];
      past = (after_rounds first bytes c.rounds).events;
      split = refl;
      ends = c.ends ∙ g.ends ∙ ap (λ (es : List Event). after es new_ends) (sym (g.events ∙ append-nil g.since));
    }
