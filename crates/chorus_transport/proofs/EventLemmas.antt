-- What events leave: how wide the ends are, what only grows, and what a quiet event does not touch.
use Rattle.std.proofs.Common.{◌≡◌, ℕ, zero, suc, ◌+◌, ◌-◌, ◌<◌, ◌≤◌, true, List, [], ◌∷◌, ◌++◌, length, map, replicate, get_or, drop, Option, None, Some, refl, ◌∙◌, arith, length-append, length-drop}
use Rattle.std.specs.Prelude.{slice_get}
use Rattle.std.proofs.lemmas.Bool.{cond_both}
use Rattle.std.proofs.lemmas.Bool.Decides.{nat_tests}
use Rattle.std.proofs.lemmas.List.{length-set, length-replicate}
use Rattle.std.proofs.lemmas.Option.{none-some}
use Rattle.chorus_transport.specs.declared.chunk.Chunk.{Chunk}
use Rattle.chorus_transport.specs.declared.sender.Acked.{Acked}
use Rattle.chorus_transport.specs.declared.sender.Acked.TheVariants as acked
use Rattle.chorus_transport.specs.declared.receiver.Got.{Got}
use Rattle.chorus_transport.specs.declared.receiver.Got.TheVariants as got
use Rattle.chorus_transport.specs.Sending.{Sending, has_room, emitted, moved}
use Rattle.chorus_transport.specs.Sending as sending
use Rattle.chorus_transport.specs.Receiving.{Receiving, next_chunk, kept, passed}
use Rattle.chorus_transport.specs.Receiving as receiving
use Rattle.chorus_transport.specs.Line.{Line, Event, Put, Emit, Arrive, Deliver, Acknowledge, Hear, emits, arrives, delivers, hears, happens, run, opening, line_after}
use Rattle.chorus_transport.specs.Rounds.{emit_from}
use Rattle.chorus_transport.proofs.ListLemmas.{slice_get-append}

-- One event after another.

pub run-append : (xs ys : List Event) (line : Line) → run (xs ++ ys) line ≡ run ys (run xs line)
run-append [] ys line = refl
run-append (x ∷ xs) ys line = run-append xs ys (happens line x)

-- How wide the ends are.

pub record Fits (window : ℕ) (line : Line) : Type 0 where
  pub wide : line.sender.window ≡ window
  pub room : length line.sender.kept ≤ window
  pub ahead : length line.receiver.ahead ≡ window

below_room : (s : Sending) → has_room s ≡ true → length s.kept < s.window
below_room s e = grind (arith, nat_tests)

put_fits : (window : ℕ) (line : Line) (chunk : Chunk) → Fits window line → Fits window (happens line (Put chunk))
put_fits window line chunk f =
    cond_both (has_room line.sender) _ line (Fits window)
    (λ some. record { wide = f.wide; room = simp length-append (omega (arith, f.wide, below_room line.sender some)); ahead = f.ahead })
    (λ _. f)

emit_fits : (window : ℕ) (line : Line) (number : ℕ) (o : Option Chunk) → Fits window line → Fits window (emits line number o)
emit_fits window line number None f = f
emit_fits window line number (Some chunk) f = record { wide = f.wide; room = f.room; ahead = f.ahead }

length-kept : (r : Receiving) (number : ℕ) (chunk : Chunk) (answer : Got) → length (kept r number chunk answer).ahead ≡ length r.ahead
length-kept r number chunk got.Kept = length-set r.ahead (number - r.delivered) (Some chunk)
length-kept r number chunk got.Old = refl
length-kept r number chunk got.Far = refl

arrive_fits : (window : ℕ) (line : Line) (o : Option (ℕ × Chunk)) → Fits window line → Fits window (arrives line o)
arrive_fits window line None f = f
arrive_fits window line (Some (number, chunk)) f =
    record { wide = f.wide; room = f.room; ahead = length-kept line.receiver number chunk (receiving.answer_to line.receiver number) ∙ f.ahead }

length-slid : (ahead : List (Option Chunk)) (chunk : Chunk) → get_or ahead 0 None ≡ Some chunk → length (drop 1 ahead ++ None ∷ []) ≡ length ahead
length-slid [] chunk e = absurd (none-some chunk e)
length-slid (x ∷ xs) chunk e = length-append xs (None ∷ []) ∙ omega arith

length-passed : (r : Receiving) (o : Option Chunk) → next_chunk r ≡ o → length (passed r o).ahead ≡ length r.ahead
length-passed r None e = refl
length-passed r (Some chunk) e = length-slid r.ahead chunk e

deliver_fits : (window : ℕ) (line : Line) (o : Option Chunk) → Fits window line → Fits window (delivers line o)
deliver_fits window line None f = f
deliver_fits window line (Some chunk) f =
    record { wide = f.wide; room = f.room; ahead = length-passed line.receiver (next_chunk line.receiver) refl ∙ f.ahead }

moved_fits : (window : ℕ) (line : Line) (answer : Acked) → Fits window line → Fits window (record line { sender = moved line.sender answer })
moved_fits window line (acked.Moved by) f = record { wide = f.wide; room = simp length-drop (omega (arith, f.room)); ahead = f.ahead }
moved_fits window line acked.Old f = f
moved_fits window line acked.Beyond f = f

hear_fits : (window : ℕ) (line : Line) (o : Option ℕ) → Fits window line → Fits window (hears line o)
hear_fits window line None f = f
hear_fits window line (Some upto) f = moved_fits window line (sending.answer_to line.sender upto) f

pub event_fits : (window : ℕ) (line : Line) (event : Event) → Fits window line → Fits window (happens line event)
event_fits window line (Put chunk) f = put_fits window line chunk f
event_fits window line (Emit number) f = emit_fits window line number (emitted line.sender number) f
event_fits window line (Arrive which) f = arrive_fits window line (slice_get line.emissions which) f
event_fits window line Deliver f = deliver_fits window line (next_chunk line.receiver) f
event_fits window line Acknowledge f = record { wide = f.wide; room = f.room; ahead = f.ahead }
event_fits window line (Hear which) f = hear_fits window line (slice_get line.acks which) f

pub run_fits : (window : ℕ) (events : List Event) (line : Line) → Fits window line → Fits window (run events line)
run_fits window [] line f = f
run_fits window (event ∷ events) line f = run_fits window events (happens line event) (event_fits window line event f)

pub line_fits : (window : ℕ) (events : List Event) → Fits window (line_after window events)
line_fits window events = run_fits window events (opening window) record { wide = refl; room = omega arith; ahead = length-replicate window None }

-- What only grows.

pub record Follows (line l : Line) : Type 0 where
  pub base : line.sender.base ≤ l.sender.base
  pub delivered : line.receiver.delivered ≤ l.receiver.delivered
  pub emissions : (k : ℕ) (x : ℕ × Chunk) → slice_get line.emissions k ≡ Some x → slice_get l.emissions k ≡ Some x
  pub acks : (k x : ℕ) → slice_get line.acks k ≡ Some x → slice_get l.acks k ≡ Some x

pub follows_itself : (line : Line) → Follows line line
follows_itself line = record { base = omega arith; delivered = omega arith; emissions = λ k x e. e; acks = λ k x e. e }

pub follows_then : (a b c : Line) → Follows a b → Follows b c → Follows a c
follows_then a b c f g =
    record {
      base = omega (arith, f.base, g.base);
      delivered = omega (arith, f.delivered, g.delivered);
      emissions = λ k x e. g.emissions k x (f.emissions k x e);
      acks = λ k x e. g.acks k x (f.acks k x e);
    }

put_follows : (line : Line) (chunk : Chunk) → Follows line (happens line (Put chunk))
put_follows line chunk =
    cond_both (has_room line.sender) _ line (Follows line)
    (λ _. record { base = omega arith; delivered = omega arith; emissions = λ k x e. e; acks = λ k x e. e })
    (λ _. follows_itself line)

emit_follows : (line : Line) (number : ℕ) (o : Option Chunk) → Follows line (emits line number o)
emit_follows line number None = follows_itself line
emit_follows line number (Some chunk) =
    record { base = omega arith; delivered = omega arith; emissions = slice_get-append line.emissions ((number, chunk) ∷ []); acks = λ k x e. e }

delivered-kept : (r : Receiving) (number : ℕ) (chunk : Chunk) (answer : Got) → r.delivered ≤ (kept r number chunk answer).delivered
delivered-kept r number chunk got.Kept = omega arith
delivered-kept r number chunk got.Old = omega arith
delivered-kept r number chunk got.Far = omega arith

arrive_follows : (line : Line) (o : Option (ℕ × Chunk)) → Follows line (arrives line o)
arrive_follows line None = follows_itself line
arrive_follows line (Some (number, chunk)) =
    record { base = omega arith; delivered = delivered-kept line.receiver number chunk (receiving.answer_to line.receiver number); emissions = λ k x e. e; acks = λ k x e. e }

delivered-passed : (r : Receiving) (o : Option Chunk) → r.delivered ≤ (passed r o).delivered
delivered-passed r None = omega arith
delivered-passed r (Some chunk) = omega arith

deliver_follows : (line : Line) (o : Option Chunk) → Follows line (delivers line o)
deliver_follows line None = follows_itself line
deliver_follows line (Some chunk) =
    record { base = omega arith; delivered = delivered-passed line.receiver (next_chunk line.receiver); emissions = λ k x e. e; acks = λ k x e. e }

base-moved : (s : Sending) (answer : Acked) → s.base ≤ (moved s answer).base
base-moved s (acked.Moved by) = omega arith
base-moved s acked.Old = omega arith
base-moved s acked.Beyond = omega arith

hear_follows : (line : Line) (o : Option ℕ) → Follows line (hears line o)
hear_follows line None = follows_itself line
hear_follows line (Some upto) =
    record { base = base-moved line.sender (sending.answer_to line.sender upto); delivered = omega arith; emissions = λ k x e. e; acks = λ k x e. e }

pub event_follows : (line : Line) (event : Event) → Follows line (happens line event)
event_follows line (Put chunk) = put_follows line chunk
event_follows line (Emit number) = emit_follows line number (emitted line.sender number)
event_follows line (Arrive which) = arrive_follows line (slice_get line.emissions which)
event_follows line Deliver = deliver_follows line (next_chunk line.receiver)
event_follows line Acknowledge =
    record { base = omega arith; delivered = omega arith; emissions = λ k x e. e; acks = slice_get-append line.acks _ }
event_follows line (Hear which) = hear_follows line (slice_get line.acks which)

pub run_follows : (events : List Event) (line : Line) → Follows line (run events line)
run_follows [] line = follows_itself line
run_follows (event ∷ events) line =
    follows_then line (happens line event) (run events (happens line event)) (event_follows line event) (run_follows events (happens line event))

-- Quiet events put nothing and acknowledge nothing.

abbrev IsQuiet : Event → Type 0
IsQuiet (Put chunk) = ⊥
IsQuiet (Emit number) = Unit {0}
IsQuiet (Arrive which) = Unit {0}
IsQuiet Deliver = Unit {0}
IsQuiet Acknowledge = ⊥
IsQuiet (Hear which) = Unit {0}

abbrev pub AreQuiet : List Event → Type 0
AreQuiet [] = Unit {0}
AreQuiet (event ∷ events) = IsQuiet event × AreQuiet events

pub record IsLeft (line l : Line) : Type 0 where
  pub put : l.put ≡ line.put
  pub acks : l.acks ≡ line.acks

left_itself : (line : Line) → IsLeft line line
left_itself line = record { put = refl; acks = refl }

emit_leaves : (line : Line) (number : ℕ) (o : Option Chunk) → IsLeft line (emits line number o)
emit_leaves line number None = left_itself line
emit_leaves line number (Some chunk) = record { put = refl; acks = refl }

arrive_leaves : (line : Line) (o : Option (ℕ × Chunk)) → IsLeft line (arrives line o)
arrive_leaves line None = left_itself line
arrive_leaves line (Some e) = record { put = refl; acks = refl }

deliver_leaves : (line : Line) (o : Option Chunk) → IsLeft line (delivers line o)
deliver_leaves line None = left_itself line
deliver_leaves line (Some chunk) = record { put = refl; acks = refl }

hear_leaves : (line : Line) (o : Option ℕ) → IsLeft line (hears line o)
hear_leaves line None = left_itself line
hear_leaves line (Some upto) = record { put = refl; acks = refl }

quiet_leaves : (line : Line) (event : Event) → IsQuiet event → IsLeft line (happens line event)
quiet_leaves line (Put chunk) q = absurd q
quiet_leaves line (Emit number) q = emit_leaves line number (emitted line.sender number)
quiet_leaves line (Arrive which) q = arrive_leaves line (slice_get line.emissions which)
quiet_leaves line Deliver q = deliver_leaves line (next_chunk line.receiver)
quiet_leaves line Acknowledge q = absurd q
quiet_leaves line (Hear which) q = hear_leaves line (slice_get line.acks which)

pub run_leaves : (events : List Event) (line : Line) → AreQuiet events → IsLeft line (run events line)
run_leaves [] line q = left_itself line
run_leaves (event ∷ events) line q =
    let one = quiet_leaves line event q.0 in
    let rest = run_leaves events (happens line event) q.1 in
    record { put = rest.put ∙ one.put; acks = rest.acks ∙ one.acks }

pub deliveries_quiet : (n : ℕ) → AreQuiet (replicate n Deliver)
deliveries_quiet zero = tt
deliveries_quiet (suc n) = (tt, deliveries_quiet n)

pub emissions_quiet : (number count : ℕ) → AreQuiet (emit_from number count)
emissions_quiet number zero = tt
emissions_quiet number (suc count) = (tt, emissions_quiet (number + 1) count)

pub arrivals_quiet : (which : List ℕ) → AreQuiet (map (λ k. Arrive k) which)
arrivals_quiet [] = tt
arrivals_quiet (k ∷ which) = (tt, arrivals_quiet which)

pub hearings_quiet : (which : List ℕ) → AreQuiet (map (λ k. Hear k) which)
hearings_quiet [] = tt
hearings_quiet (k ∷ which) = (tt, hearings_quiet which)
