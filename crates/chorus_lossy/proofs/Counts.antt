-- What a part of a round counts.
use Rattle.std.proofs.Common.{◌≡◌, ℕ, zero, suc, ◌+◌, ◌%◌, ◌≤◌, Bool, true, false, cond, List, [], ◌∷◌, length, Option, None, Some, refl, arith}
use Rattle.std.specs.Prelude.{◌==◌, is_some}
use Rattle.std.specs.List.{prefix_len}
use Rattle.chorus_draw.specs.Draws.{next_state, number_of}
use Rattle.chorus_transport.specs.Sending.{emitted}
use Rattle.chorus_transport.specs.declared.chunk.Chunk.{Chunk}
use Rattle.chorus_transport.specs.Receiving.{next_chunk, ack_of}
use Rattle.chorus_lossy.specs.Line.{Hear}
use Rattle.chorus_lossy.specs.Rounds.{Moment, happened, arrived, held_back, one_lost, is_lost, room, puts, filled, sent, sent_if_kept, emission, emissions, all_sent, releases, released, given, deliveries, all_delivered, heard, acknowledged, is_done, round}

-- at most so many more were emitted and lost
pub record Counts (emitted lost : ℕ) (m later : Moment) : Type 0 where
  pub emissions : later.emitted ≤ m.emitted + emitted
  pub losses : later.lost ≤ m.lost + lost

pub counts-then : {a b c : Moment} {e f l k : ℕ} → Counts e l a b → Counts f k b c → Counts (e + f) (l + k) a c
counts-then {a} {b} {c} {e} {f} {l} {k} p q =
    record { emissions = omega (arith, p.emissions, q.emissions); losses = omega (arith, p.losses, q.losses) }

none : (m later : Moment) → later.emitted ≡ m.emitted → later.lost ≡ m.lost → Counts 0 0 m later
none m later p q = record { emissions = omega arith; losses = omega arith }

counts-if : (e l : ℕ) (b : Bool) (m x y : Moment) → Counts e l m x → Counts e l m y → Counts e l m (cond b x y)
counts-if e l true m x y p q = p
counts-if e l false m x y p q = q

weaker : (e l : ℕ) (m later : Moment) → Counts 0 0 m later → Counts e l m later
weaker e l m later p = record { emissions = omega (arith, p.emissions); losses = omega (arith, p.losses) }

puts-emitted : (bytes : List ℕ) (k : ℕ) (m : Moment) → (puts bytes k m).emitted ≡ m.emitted
puts-emitted bytes zero m = refl
puts-emitted bytes (suc k) m = puts-emitted bytes k m

puts-lost : (bytes : List ℕ) (k : ℕ) (m : Moment) → (puts bytes k m).lost ≡ m.lost
puts-lost bytes zero m = refl
puts-lost bytes (suc k) m = puts-lost bytes k m

pub counts-filled : (bytes : List ℕ) (m : Moment) → Counts 0 0 m (filled bytes m)
unfolding filled
counts-filled bytes m =
    let k = room bytes m.ends.sender in
    none m (puts bytes k m) (puts-emitted bytes k m) (puts-lost bytes k m)

one-lost : (m : Moment) → Counts 0 1 m (one_lost m)
one-lost m = record { emissions = omega arith; losses = omega arith }

counts-sent : (n fate i : ℕ) (chunk : Chunk) (m : Moment) → Counts 0 1 m (sent n fate i chunk m)
counts-sent n fate i chunk m =
    let once = arrived i chunk m in
    let twice = arrived i chunk once in
    let back = held_back i chunk m in
    counts-if 0 1 (is_lost n fate) m (one_lost m) _ (one-lost m)
    (counts-if 0 1 (fate == 1) m twice _ (weaker 0 1 m twice (none m twice refl refl))
    (counts-if 0 1 (fate == 2) m back once (weaker 0 1 m back (none m back refl refl)) (weaker 0 1 m once (none m once refl refl))))

counts-sent_if_kept : (n fate i : ℕ) (o : Option Chunk) (m : Moment) → Counts 0 1 m (sent_if_kept n fate i o m)
counts-sent_if_kept n fate i None m = weaker 0 1 m m (none m m refl refl)
counts-sent_if_kept n fate i (Some chunk) m = counts-sent n fate i chunk m

counts-emission : (n i : ℕ) (m : Moment) → Counts 1 1 m (emission n i m)
unfolding emission
counts-emission n i m =
    let x = next_state m.state in
    let next : Moment = record m { state = x; emitted = m.emitted + 1 } in
    let then = counts-sent_if_kept n (number_of x % 4) i (emitted m.ends.sender i) next in
    record { emissions = omega (arith, then.emissions); losses = omega (arith, then.losses) }

pub counts-emissions : (n from k : ℕ) (m : Moment) → Counts k k m (emissions n from k m)
counts-emissions n from zero m = none m m refl refl
counts-emissions n from (suc k) m =
    let before = counts-emissions n from k m in
    let here = counts-emission n (from + k) (emissions n from k m) in
    record { emissions = omega (arith, before.emissions, here.emissions); losses = omega (arith, before.losses, here.losses) }

pub counts-all_sent : (n : ℕ) (m : Moment) → length m.ends.sender.kept ≤ 8 → Counts 8 8 m (all_sent n m)
unfolding all_sent
counts-all_sent n m fits =
    let c = counts-emissions n m.ends.sender.base (length m.ends.sender.kept) m in
    record { emissions = omega (arith, c.emissions); losses = omega (arith, c.losses) }

counts-releases : (held : List (ℕ × Chunk)) (m : Moment) → Counts 0 0 m (releases held m)
counts-releases [] m = none m m refl refl
counts-releases ((i, chunk) ∷ held) m =
    let then = counts-releases held (arrived i chunk (record m { held = held })) in
    record { emissions = then.emissions; losses = then.losses }

pub counts-released : (m : Moment) → Counts 0 0 m (released m)
unfolding released
counts-released m = counts-releases m.held m

counts-given : (o : Option Chunk) (m : Moment) → Counts 0 0 m (given o m)
counts-given None m = none m m refl refl
counts-given (Some chunk) m = record { emissions = omega arith; losses = omega arith }

counts-deliveries : (k : ℕ) (m : Moment) → Counts 0 0 m (deliveries k m)
counts-deliveries zero m = none m m refl refl
counts-deliveries (suc k) m = counts-then (counts-given (next_chunk m.ends.receiver) m) (counts-deliveries k (given (next_chunk m.ends.receiver) m))

pub counts-all_delivered : (m : Moment) → Counts 0 0 m (all_delivered m)
unfolding all_delivered
counts-all_delivered m = counts-deliveries (prefix_len is_some m.ends.receiver.ahead) m

counts-heard : (n fate : ℕ) (m : Moment) → Counts 0 1 m (heard n fate m)
counts-heard n fate m =
    let next = happened (Hear (ack_of m.ends.receiver)) m in
    counts-if 0 1 (is_lost n fate) m (one_lost m) next (one-lost m) (weaker 0 1 m next (none m next refl refl))

pub counts-acknowledged : (n : ℕ) (m : Moment) → Counts 0 1 m (acknowledged n m)
unfolding acknowledged
counts-acknowledged n m =
    let x = next_state m.state in
    let then = counts-heard n (number_of x % 4) (record m { state = x }) in
    record { emissions = then.emissions; losses = then.losses }

pub counts-round : (bytes : List ℕ) (n : ℕ) (m : Moment) → length (filled bytes m).ends.sender.kept ≤ 8 → Counts 8 9 m (round bytes n m)
unfolding round
counts-round bytes n m fits =
    let sent = all_sent n (filled bytes m) in
    let last = all_delivered (released sent) in
    counts-then (counts-then (counts-filled bytes m) (counts-all_sent n (filled bytes m) fits))
    (counts-then (counts-then (counts-released sent) (counts-all_delivered (released sent)))
    (counts-if 0 1 (is_done bytes last) last last (acknowledged n last) (weaker 0 1 last last (none last last refl refl)) (counts-acknowledged n last)))
