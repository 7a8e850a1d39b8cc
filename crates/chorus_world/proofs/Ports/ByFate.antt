-- The ids of Take entries are those that were received by their fate, and those of a Delete entry those that were discarded.
use Rattle.std.proofs.Common.{ℕ, zero, suc, ◌≡◌, ◌<◌, ◌≤◌, ◌-◌, Bool, true, false, nat_lt, cond, List, [], ◌∷◌, length, take, drop, Option, Some, refl, sym, ◌∙◌, ap, subst, arith}
use Rattle.std.specs.Prelude.{slice_get}
use Rattle.std.proofs.lemmas.Bool.{lt-ltb, ltb-true, ltb-false}
use Rattle.std.proofs.lemmas.Option.{slice_get_within}
use Rattle.chorus_ui.specs.declared.layout.Layout.{Layout}
use Rattle.chorus_ui.specs.Layout.{IsLayout}
use Rattle.chorus_entry.specs.declared.entry.Entry.{Entry}
use Rattle.chorus_entry.specs.declared.id.MsgId.{MsgId}
use Rattle.chorus_world.specs.declared.spot.Spot.{Spot}
use Rattle.chorus_world.specs.declared.spot.Spot.TheVariants.{Held, Moving, Ended}
use Rattle.chorus_world.specs.Views.{on}
use Rattle.chorus_world.specs.Ports.{PortState}
use Rattle.chorus_world.specs.Fates.{fate_at, fate_left}
use Rattle.chorus_world.specs.Fates.MessageFate.{Received, Discarded}
use Rattle.chorus_world.specs.AcceptedLaws.{DiscardedByFate, ReceivedByFate, discarded}
use Rattle.chorus_world.specs.Steps.{is_legal}
use Rattle.chorus_world.proofs.Ports.LineLemmas.{Discards}
use Rattle.chorus_world.proofs.Ports.PortLaws.{discards_spot, line_facts}

take-get : {X : Type 0} → (xs : List X) (n i : ℕ) → i < n → slice_get (take n xs) i ≡ slice_get xs i
take-get xs zero i lt = absurd (omega (arith, lt))
take-get [] (suc n) i lt = refl
take-get (x ∷ xs) (suc n) zero lt = refl
take-get (x ∷ xs) (suc n) (suc i) lt = take-get xs n i (omega (arith, lt))

take-short : {X : Type 0} → (xs : List X) (n : ℕ) → length (take n xs) ≤ n
take-short xs zero = omega arith
take-short [] (suc n) = omega arith
take-short (x ∷ xs) (suc n) = let ih = take-short xs n in omega (arith, ih)

drop-get : {X : Type 0} → (xs : List X) (n i : ℕ) → n ≤ i → slice_get (drop n xs) (i - n) ≡ slice_get xs i
drop-get xs zero i le = ap (slice_get xs) (let e : i - 0 ≡ i = omega arith in e)
drop-get [] (suc n) i le = refl
drop-get (x ∷ xs) (suc n) zero le = absurd (omega (arith, le))
drop-get (x ∷ xs) (suc n) (suc i) le = let e : suc i - suc n ≡ i - n = omega arith in ap (slice_get (drop n xs)) e ∙ drop-get xs n i (omega (arith, le))

left-apart : (s : Spot) → fate_left s ≡ Received → ⊥
left-apart (Held a) h = absurd (cc)
left-apart (Moving a) h = absurd (cc)
left-apart Ended h = absurd (cc)

was-received : (i : ℕ) (f : PortState) → fate_at i f ≡ Received → i < f.taken
was-received i f h = go (nat_lt i f.taken) refl h
  where
    go : (b : Bool) → nat_lt i f.taken ≡ b → cond b Received (fate_left f.spot) ≡ Received → i < f.taken
    go true e k = ltb-true i f.taken e
    go false e k = absurd (left-apart f.spot k)

left-ended : (s : Spot) → fate_left s ≡ Discarded → s ≡ Ended
left-ended (Held a) h = absurd (cc)
left-ended (Moving a) h = absurd (cc)
left-ended Ended h = refl

was-discarded : (i : ℕ) (f : PortState) → fate_at i f ≡ Discarded → (f.taken ≤ i) × (f.spot ≡ Ended)
was-discarded i f h = go (nat_lt i f.taken) refl h
  where
    go : (b : Bool) → nat_lt i f.taken ≡ b → cond b Received (fate_left f.spot) ≡ Discarded → (f.taken ≤ i) × (f.spot ≡ Ended)
    go true e k = absurd (cc)
    go false e k = (ltb-false i f.taken e, left-ended f.spot k)

pub received_by_fate : (l : Layout) (past : List Entry) → IsLayout l → is_legal l past ≡ true → ReceivedByFate past
received_by_fate l past layout h q i x f made at =
    let facts = line_facts l past q f layout h made in (
      λ is. ap (λ zs. slice_get zs i) facts.received ∙ (take-get f.accepted f.taken i (was-received i f is) ∙ at),
      λ got.
          let within = slice_get_within (take f.taken f.accepted) i x (ap (λ zs. slice_get zs i) (sym facts.received) ∙ got) in
          let short = take-short f.accepted f.taken in
          ap (λ b. cond b Received (fate_left f.spot)) (lt-ltb i f.taken (omega (arith, within, short))),
    )

discards-all : (s : Spot) (d : Option (List MsgId)) (xs : List MsgId) → s ≡ Ended → Discards s d xs → d ≡ Some xs
discards-all s d xs e h = subst (λ z. Discards z d xs) e h

pub discarded_by_fate : (l : Layout) (past : List Entry) → IsLayout l → is_legal l past ≡ true → DiscardedByFate past
discarded_by_fate l past layout h q i x f made at =
    let facts = line_facts l past q f layout h made in
    let rest = drop f.taken f.accepted in (
      λ is.
          let two = was-discarded i f is in
          (rest, discards-all f.spot (discarded (on q past)) rest two.1 facts.over, drop-get f.accepted f.taken i two.0 ∙ at),
      λ xs has le.
          let ended = (discards_spot f.spot (discarded (on q past)) xs rest facts.over has).0 in
          go (nat_lt i f.taken) refl le ended,
    )
  where
    go : (b : Bool) → nat_lt i f.taken ≡ b → f.taken ≤ i → f.spot ≡ Ended → cond b Received (fate_left f.spot) ≡ Discarded
    go true e le ended = absurd (let lt = ltb-true i f.taken e in omega (arith, lt, le))
    go false e le ended = ap fate_left ended
