-- What the ends keep through the run: each chunk that they have is that of its number.
use Rattle.std.proofs.Common.{◌≡◌, ℕ, zero, suc, ◌+◌, ◌-◌, ◌*◌, ◌<◌, ◌≤◌, ◌⊎◌, inl, inr, ⊎_elim, List, [], ◌∷◌, ◌++◌, length, get_or, take, drop, Option, None, Some, is_some, refl, sym, ◌∙◌, ap, subst, arith, add-zero, length-append, length-drop}
use Rattle.std.specs.Prelude.{slice_get}
use Rattle.std.specs.List.{prefix_len}
use Rattle.std.proofs.Math.Seq.{take-add}
use Rattle.std.proofs.lemmas.Bool.{cases_lt, cond-true, cond-false, lt-ltb, le-ltb}
use Rattle.std.proofs.lemmas.Bool.Decides.{nat_tests}
use Rattle.std.proofs.lemmas.List.{length-set, length-replicate}
use Rattle.std.proofs.lemmas.Option.{none-some, same_Some, slice_get_within}
use Rattle.chorus_transport.specs.declared.chunk.Chunk.{Chunk}
use Rattle.chorus_transport.specs.declared.sender.Acked.{Acked}
use Rattle.chorus_transport.specs.declared.sender.Acked.TheVariants as acked
use Rattle.chorus_transport.specs.declared.receiver.Got.{Got}
use Rattle.chorus_transport.specs.declared.receiver.Got.TheVariants as got
use Rattle.chorus_transport.specs.Sending.{Sending, next_number, after_put, moved, after_ack, emitted}
use Rattle.chorus_transport.specs.Sending as sending
use Rattle.chorus_transport.specs.Receiving.{Receiving, after_arrival, next_chunk, passed, kept}
use Rattle.chorus_transport.specs.Receiving as receiving
use Rattle.chorus_transport.proofs.ListLemmas.{slice_get-drop, set_cases}
use Rattle.chorus_transport.proofs.PlaceLemmas.{get_or-replicate_none, get_or-padded, prefix_len-padded}
use Rattle.chorus_lossy.specs.Line.{Ends, ends, new_ends, chunk_at, chunk_count}

-- e are the ends, and out the bytes that were delivered
pub record IsSound (bytes : List ℕ) (e : Ends) (out : List ℕ) : Type 0 where
  pub window : e.sender.window ≡ 8
  pub fits : length e.sender.kept ≤ 8
  pub kept : (k : ℕ) (c : Chunk) → slice_get e.sender.kept k ≡ Some c → c ≡ chunk_at bytes (e.sender.base + k)
  pub put : next_number e.sender ≤ chunk_count bytes
  pub wide : length e.receiver.ahead ≡ 8
  pub ahead : (k : ℕ) (c : Chunk) → get_or e.receiver.ahead k None ≡ Some c → (c ≡ chunk_at bytes (e.receiver.delivered + k)) × (e.receiver.delivered + k < next_number e.sender)
  pub base : e.sender.base ≤ e.receiver.delivered
  pub upto : e.receiver.delivered ≤ next_number e.sender
  pub front : out ≡ take (e.receiver.delivered * 64) bytes

abbrev none : (A : Type 0) → Option A
none A = None

pub opening_sound : (bytes : List ℕ) → IsSound bytes new_ends []
opening_sound bytes =
    record {
      window = refl;
      fits = omega arith;
      kept = λ k c e. absurd (none-some c e);
      put = omega arith;
      wide = length-replicate 8 (none Chunk);
      ahead = λ k c e. absurd (none-some c (sym (get_or-replicate_none Chunk 8 k) ∙ e));
      base = omega arith;
      upto = omega arith;
      front = refl;
    }

-- a chunk is put

slice_get_pushed : (xs : List Chunk) (x : Chunk) (k : ℕ) (y : Chunk) → slice_get (xs ++ x ∷ []) k ≡ Some y → (slice_get xs k ≡ Some y) ⊎ ((k ≡ length xs) × (x ≡ y))
slice_get_pushed [] x zero y e = inr (refl, same_Some x y e)
slice_get_pushed [] x (suc k) y e = absurd (none-some y e)
slice_get_pushed (z ∷ xs) x zero y e = inl e
slice_get_pushed (z ∷ xs) x (suc k) y e = ⊎_elim inl (λ p. inr (ap suc p.0, p.1)) (slice_get_pushed xs x k y e)

pub put_sound : (bytes : List ℕ) (e : Ends) (out : List ℕ) → IsSound bytes e out → next_number e.sender < chunk_count bytes → length e.sender.kept < 8 → IsSound bytes (ends (after_put e.sender (chunk_at bytes (next_number e.sender))) e.receiver) out
put_sound bytes e out h more room =
    let c = chunk_at bytes (next_number e.sender) in
    record {
      window = h.window;
      fits = simp length-append (omega arith);
      kept = λ k y q.
          ⊎_elim
          (h.kept k y)
          (λ (p : (k ≡ length e.sender.kept) × (c ≡ y)). sym p.1 ∙ ap (λ j. chunk_at bytes (e.sender.base + j)) (sym p.0))
          (slice_get_pushed e.sender.kept c k y q);
      put = simp length-append (omega arith);
      wide = h.wide;
      ahead = λ k y q. ((h.ahead k y q).0, simp length-append (omega (arith, (h.ahead k y q).1)));
      base = h.base;
      upto = simp length-append (omega (arith, h.upto));
      front = h.front;
    }

-- a chunk arrives

pub kept_from : (r : Receiving) (number : ℕ) → receiving.answer_to r number ≡ got.Kept → r.delivered ≤ number
kept_from r number e = grind (arith, nat_tests)

arrival_answer : (bytes : List ℕ) (e : Ends) (out : List ℕ) (i : ℕ) (answer : Got) → IsSound bytes e out → i < next_number e.sender → receiving.answer_to e.receiver i ≡ answer → IsSound bytes (ends e.sender (kept e.receiver i (chunk_at bytes i) answer)) out
arrival_answer bytes e out i got.Old h less q = record { window = h.window; fits = h.fits; kept = h.kept; put = h.put; wide = h.wide; ahead = h.ahead; base = h.base; upto = h.upto; front = h.front }
arrival_answer bytes e out i got.Far h less q = record { window = h.window; fits = h.fits; kept = h.kept; put = h.put; wide = h.wide; ahead = h.ahead; base = h.base; upto = h.upto; front = h.front }
arrival_answer bytes e out i got.Kept h less q =
    let r = e.receiver in
    let c = chunk_at bytes i in
    let from : r.delivered ≤ i = kept_from r i q in
    let at : r.delivered + (i - r.delivered) ≡ i = omega arith in
    record {
      window = h.window;
      fits = h.fits;
      kept = h.kept;
      put = h.put;
      wide = length-set r.ahead (i - r.delivered) (Some c) ∙ h.wide;
      ahead = λ k y p.
          ⊎_elim
          (h.ahead k y)
          (λ (w : (k ≡ i - r.delivered) × (c ≡ y)).
          let here : r.delivered + k ≡ i = ap (λ j. r.delivered + j) w.0 ∙ at in
          (sym w.1 ∙ ap (chunk_at bytes) (sym here), subst (λ j. j < next_number e.sender) (sym here) less))
          (set_cases r.ahead (i - r.delivered) c k y p);
      base = h.base;
      upto = h.upto;
      front = h.front;
    }

pub arrival_sound : (bytes : List ℕ) (e : Ends) (out : List ℕ) (i : ℕ) → IsSound bytes e out → i < next_number e.sender → IsSound bytes (ends e.sender (after_arrival e.receiver i (chunk_at bytes i))) out
arrival_sound bytes e out i h less = arrival_answer bytes e out i _ h less refl

-- the next one is delivered

-- the places behind the first, with an empty one at their end
pub get_or-slid : (ahead : List (Option Chunk)) (k : ℕ) → get_or (drop 1 ahead ++ None ∷ []) k None ≡ get_or ahead (suc k) None
get_or-slid [] k = get_or-replicate_none Chunk 1 k
get_or-slid (x ∷ xs) k = get_or-padded 1 xs k

pub prefix_len-slid : (ahead : List (Option Chunk)) (chunk : Chunk) → get_or ahead 0 None ≡ Some chunk → prefix_len is_some ahead ≡ suc (prefix_len is_some (drop 1 ahead ++ None ∷ []))
prefix_len-slid [] chunk e = absurd (none-some chunk e)
prefix_len-slid (None ∷ xs) chunk e = absurd (none-some chunk e)
prefix_len-slid (Some x ∷ xs) chunk e = omega (arith, prefix_len-padded 1 xs)

length-slid : (ahead : List (Option Chunk)) → length ahead ≡ 8 → length (drop 1 ahead ++ None ∷ []) ≡ 8
length-slid ahead e = simp (length-append, length-drop) (omega arith)

take_one_more : (bytes : List ℕ) (d : ℕ) → take (d * 64) bytes ++ take 64 (drop (d * 64) bytes) ≡ take ((d + 1) * 64) bytes
take_one_more bytes d = let at : d * 64 + 64 ≡ (d + 1) * 64 = omega arith in sym (take-add (d * 64) 64 bytes) ∙ ap (λ n. take n bytes) at

pub delivery_sound : (bytes : List ℕ) (e : Ends) (out : List ℕ) (c : Chunk) → IsSound bytes e out → next_chunk e.receiver ≡ Some c → IsSound bytes (ends e.sender (passed e.receiver (Some c))) (out ++ c)
delivery_sound bytes e out c h q =
    let r = e.receiver in
    let here = h.ahead 0 c q in
    let is : c ≡ chunk_at bytes r.delivered = here.0 ∙ ap (chunk_at bytes) (add-zero r.delivered) in
    record {
      window = h.window;
      fits = h.fits;
      kept = h.kept;
      put = h.put;
      wide = length-slid r.ahead h.wide;
      ahead = λ k y p.
          let then = h.ahead (suc k) y (sym (get_or-slid r.ahead k) ∙ p) in
          let at : r.delivered + suc k ≡ r.delivered + 1 + k = omega arith in
          (then.0 ∙ ap (chunk_at bytes) at, subst (λ j. j < next_number e.sender) at then.1);
      base = omega (arith, h.base);
      upto = omega (arith, here.1);
      front = ap (λ o. o ++ c) h.front ∙ ap (λ x. take (r.delivered * 64) bytes ++ x) is ∙ take_one_more bytes r.delivered;
    }

-- the acknowledgement of what was delivered arrives

moved_from : (s : Sending) (upto by : ℕ) → sending.answer_to s upto ≡ acked.Moved by → upto ≡ s.base + by
moved_from s upto by e = grind (arith, nat_tests)

ack_answer : (bytes : List ℕ) (e : Ends) (out : List ℕ) (upto : ℕ) (answer : Acked) → IsSound bytes e out → upto ≡ e.receiver.delivered → sending.answer_to e.sender upto ≡ answer → IsSound bytes (ends (moved e.sender answer) e.receiver) out
ack_answer bytes e out upto acked.Old h u q = record { window = h.window; fits = h.fits; kept = h.kept; put = h.put; wide = h.wide; ahead = h.ahead; base = h.base; upto = h.upto; front = h.front }
ack_answer bytes e out upto acked.Beyond h u q = record { window = h.window; fits = h.fits; kept = h.kept; put = h.put; wide = h.wide; ahead = h.ahead; base = h.base; upto = h.upto; front = h.front }
ack_answer bytes e out upto (acked.Moved by) h u q =
    let s = e.sender in
    let is : upto ≡ s.base + by = moved_from s upto by q in
    let within : upto ≤ next_number s = omega (arith, u, h.upto) in
    let stays : s.base + by + length (drop by s.kept) ≡ next_number s = simp length-drop (omega arith) in
    record {
      window = h.window;
      fits = simp length-drop (omega (arith, h.fits));
      kept = λ k c p.
          let at : s.base + (by + k) ≡ s.base + by + k = omega arith in
          h.kept (by + k) c (sym (slice_get-drop by s.kept k) ∙ p) ∙ ap (chunk_at bytes) at;
      put = omega (arith, stays, h.put);
      wide = h.wide;
      ahead = λ k c p. ((h.ahead k c p).0, omega (arith, stays, (h.ahead k c p).1));
      base = omega (arith, is, u);
      upto = omega (arith, stays, h.upto);
      front = h.front;
    }

pub ack_sound : (bytes : List ℕ) (e : Ends) (out : List ℕ) (upto : ℕ) → IsSound bytes e out → upto ≡ e.receiver.delivered → IsSound bytes (ends (after_ack e.sender upto) e.receiver) out
ack_sound bytes e out upto h u = ack_answer bytes e out upto _ h u refl

-- a chunk that is kept is that of its number
pub emitted_sound : (bytes : List ℕ) (e : Ends) (out : List ℕ) (i : ℕ) (c : Chunk) → IsSound bytes e out → emitted e.sender i ≡ Some c → (c ≡ chunk_at bytes i) × (i < next_number e.sender)
emitted_sound bytes e out i c h q =
    let s = e.sender in
    ⊎_elim
    (λ (l : i < s.base). absurd (none-some c (sym (cond-true _ None _ (lt-ltb i s.base l)) ∙ q)))
    (λ (g : s.base ≤ i).
    let at : s.base + (i - s.base) ≡ i = omega arith in
    let some : slice_get s.kept (i - s.base) ≡ Some c = sym (cond-false _ None _ (le-ltb i s.base g)) ∙ q in
    let within = slice_get_within s.kept (i - s.base) c some in
    (h.kept (i - s.base) c some ∙ ap (chunk_at bytes) at, omega arith))
    (cases_lt i s.base)
