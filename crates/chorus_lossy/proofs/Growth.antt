-- What happens in a part of the run is added to what happened before.
use Rattle.std.proofs.Common.{◌≡◌, ℕ, zero, suc, ◌+◌, ◌%◌, Bool, true, false, cond, List, [], ◌∷◌, ◌++◌, length, append_assoc, Option, None, Some, refl, sym, ◌∙◌, ap}
use Rattle.std.specs.Prelude.{◌==◌, is_some}
use Rattle.std.specs.List.{prefix_len}
use Rattle.chorus_transport.specs.declared.chunk.Chunk.{Chunk}
use Rattle.chorus_transport.specs.Sending.{emitted}
use Rattle.chorus_transport.specs.Receiving.{next_chunk, ack_of}
use Rattle.chorus_draw.specs.Draws.{next_state, number_of}
use Rattle.chorus_lossy.specs.Line.{Ends, Event, Arrive, Deliver, Hear, happens, after}
use Rattle.chorus_lossy.specs.Rounds.{Moment, happened, arrived, held_back, one_lost, is_lost, room, puts, filled, sent, sent_if_kept, emission, emissions, all_sent, releases, released, given, deliveries, all_delivered, heard, acknowledged, is_done, unless_done, round, opening, after_rounds}
use Rattle.chorus_lossy.specs.Running.{Grows, IsBetween}

after-append : (x y : List Event) (e : Ends) → after (x ++ y) e ≡ after x (after y e)
after-append [] y e = refl
after-append (event ∷ x) y e = ap (happens event) (after-append x y e)

pub grows-same : (m later : Moment) → later.events ≡ m.events → later.ends ≡ m.ends → Grows m later
grows-same m later p q = record { since = []; events = p; ends = q }

pub grows-then : {a b c : Moment} → Grows a b → Grows b c → Grows a c
grows-then {a} {b} {c} p q =
    record {
      since = q.since ++ p.since;
      events = q.events ∙ ap (λ es. q.since ++ es) p.events ∙ sym (append_assoc q.since p.since a.events);
      ends = q.ends ∙ ap (after q.since) p.ends ∙ sym (after-append q.since p.since a.ends);
    }

pub grows-event : (event : Event) (m : Moment) → Grows m (happened event m)
grows-event event m = record { since = event ∷ []; events = refl; ends = refl }

pub grows-if : (b : Bool) (m x y : Moment) → Grows m x → Grows m y → Grows m (cond b x y)
grows-if true m x y p q = p
grows-if false m x y p q = q

pub grows-puts : (bytes : List ℕ) (k : ℕ) (m : Moment) → Grows m (puts bytes k m)
grows-puts bytes zero m = grows-same m m refl refl
grows-puts bytes (suc k) m = grows-then (grows-puts bytes k m) (grows-event _ (puts bytes k m))

pub grows-filled : (bytes : List ℕ) (m : Moment) → Grows m (filled bytes m)
unfolding filled
grows-filled bytes m = grows-puts bytes (room bytes m.ends.sender) m

grows-twice : (i : ℕ) (chunk : Chunk) (m : Moment) → Grows m (arrived i chunk (arrived i chunk m))
grows-twice i chunk m = record { since = Arrive i chunk ∷ Arrive i chunk ∷ []; events = refl; ends = refl }

grows-sent : (n fate i : ℕ) (chunk : Chunk) (m : Moment) → Grows m (sent n fate i chunk m)
grows-sent n fate i chunk m =
    let once = grows-event (Arrive i chunk) m in
    grows-if (is_lost n fate) m (one_lost m) _ (grows-same m (one_lost m) refl refl)
    (grows-if (fate == 1) m (arrived i chunk (arrived i chunk m)) _ (grows-twice i chunk m)
    (grows-if (fate == 2) m (held_back i chunk m) (arrived i chunk m) (grows-same m (held_back i chunk m) refl refl) once))

grows-sent_if_kept : (n fate i : ℕ) (o : Option Chunk) (m : Moment) → Grows m (sent_if_kept n fate i o m)
grows-sent_if_kept n fate i None m = grows-same m m refl refl
grows-sent_if_kept n fate i (Some chunk) m = grows-sent n fate i chunk m

pub grows-emission : (n i : ℕ) (m : Moment) → Grows m (emission n i m)
unfolding emission
grows-emission n i m =
    let x = next_state m.state in
    let next : Moment = record m { state = x; emitted = m.emitted + 1 } in
    grows-then (grows-same m next refl refl) (grows-sent_if_kept n (number_of x % 4) i (emitted m.ends.sender i) next)

pub grows-emissions : (n from k : ℕ) (m : Moment) → Grows m (emissions n from k m)
grows-emissions n from zero m = grows-same m m refl refl
grows-emissions n from (suc k) m = grows-then (grows-emissions n from k m) (grows-emission n (from + k) (emissions n from k m))

pub grows-all_sent : (n : ℕ) (m : Moment) → Grows m (all_sent n m)
unfolding all_sent
grows-all_sent n m = grows-emissions n m.ends.sender.base (length m.ends.sender.kept) m

pub grows-releases : (held : List (ℕ × Chunk)) (m : Moment) → Grows m (releases held m)
grows-releases [] m = grows-same m m refl refl
grows-releases ((i, chunk) ∷ held) m =
    grows-then (grows-then (grows-same m (record m { held = held }) refl refl) (grows-event (Arrive i chunk) (record m { held = held })))
    (grows-releases held _)

pub grows-released : (m : Moment) → Grows m (released m)
unfolding released
grows-released m = grows-releases m.held m

pub grows-given : (o : Option Chunk) (m : Moment) → Grows m (given o m)
grows-given None m = grows-same m m refl refl
grows-given (Some chunk) m = record { since = Deliver ∷ []; events = refl; ends = refl }

pub grows-deliveries : (k : ℕ) (m : Moment) → Grows m (deliveries k m)
grows-deliveries zero m = grows-same m m refl refl
grows-deliveries (suc k) m = grows-then (grows-given (next_chunk m.ends.receiver) m) (grows-deliveries k _)

pub grows-all_delivered : (m : Moment) → Grows m (all_delivered m)
unfolding all_delivered
grows-all_delivered m = grows-deliveries (prefix_len is_some m.ends.receiver.ahead) m

grows-heard : (n fate : ℕ) (m : Moment) → Grows m (heard n fate m)
grows-heard n fate m =
    let event = Hear (ack_of m.ends.receiver) in
    grows-if (is_lost n fate) m (one_lost m) (happened event m) (grows-same m (one_lost m) refl refl) (grows-event event m)

pub grows-acknowledged : (n : ℕ) (m : Moment) → Grows m (acknowledged n m)
unfolding acknowledged
grows-acknowledged n m =
    let x = next_state m.state in
    let next : Moment = record m { state = x } in
    grows-then (grows-same m next refl refl) (grows-heard n (number_of x % 4) next)

pub grows-unless_done : (bytes : List ℕ) (next : Moment → Moment) (m : Moment) → Grows m (next m) → Grows m (unless_done bytes next m)
grows-unless_done bytes next m g = grows-if (is_done bytes m) m m (next m) (grows-same m m refl refl) g

-- from the last part of a round on, and from each one before it
pub grows-from_delivered : (bytes : List ℕ) (n : ℕ) (m : Moment) → Grows m (unless_done bytes (acknowledged n) m)
grows-from_delivered bytes n m = grows-unless_done bytes (acknowledged n) m (grows-acknowledged n m)

pub grows-from_released : (bytes : List ℕ) (n : ℕ) (m : Moment) → Grows m (unless_done bytes (acknowledged n) (all_delivered m))
grows-from_released bytes n m = grows-then (grows-all_delivered m) (grows-from_delivered bytes n (all_delivered m))

pub grows-from_sent : (bytes : List ℕ) (n : ℕ) (m : Moment) → Grows m (unless_done bytes (acknowledged n) (all_delivered (released m)))
grows-from_sent bytes n m = grows-then (grows-released m) (grows-from_released bytes n (released m))

pub grows-from_filled : (bytes : List ℕ) (n : ℕ) (m : Moment) → Grows m (unless_done bytes (acknowledged n) (all_delivered (released (all_sent n m))))
grows-from_filled bytes n m = grows-then (grows-all_sent n m) (grows-from_sent bytes n (all_sent n m))

pub grows-round-filled : (bytes : List ℕ) (n : ℕ) (m : Moment) → Grows (filled bytes m) (round bytes n m)
unfolding round
grows-round-filled bytes n m = grows-from_filled bytes n (filled bytes m)

pub grows-round-sent : (bytes : List ℕ) (n : ℕ) (m : Moment) → Grows (all_sent n (filled bytes m)) (round bytes n m)
unfolding round
grows-round-sent bytes n m = grows-from_sent bytes n (all_sent n (filled bytes m))

pub grows-round-released : (bytes : List ℕ) (n : ℕ) (m : Moment) → Grows (released (all_sent n (filled bytes m))) (round bytes n m)
unfolding round
grows-round-released bytes n m = grows-from_released bytes n (released (all_sent n (filled bytes m)))

pub grows-round-delivered : (bytes : List ℕ) (n : ℕ) (m : Moment) → Grows (all_delivered (released (all_sent n (filled bytes m)))) (round bytes n m)
unfolding round
grows-round-delivered bytes n m = grows-from_delivered bytes n (all_delivered (released (all_sent n (filled bytes m))))

pub grows-round : (bytes : List ℕ) (n : ℕ) (m : Moment) → Grows m (round bytes n m)
unfolding round
grows-round bytes n m = grows-then (grows-filled bytes m) (grows-from_filled bytes n (filled bytes m))

pub grows-rounds : (first : ℕ) (bytes : List ℕ) (k : ℕ) → Grows (opening first) (after_rounds first bytes k)
unfolding after_rounds
grows-rounds first bytes zero = grows-same (opening first) (opening first) refl refl
grows-rounds first bytes (suc k) =
    let m = after_rounds first bytes k in
    grows-then (grows-rounds first bytes k) (grows-unless_done bytes (round bytes (suc k)) m (grows-round bytes (suc k) m))

-- what is between a moment and a later one is between an earlier one and a still later one
pub between : {a b c d : Moment} (e : Ends) → Grows a b → Grows c d → IsBetween b c e → IsBetween a d e
between {a} {b} {c} {d} e before behind i =
    record { mid = i.mid; from = grows-then before i.from; to = grows-then i.to behind; ends = i.ends }
