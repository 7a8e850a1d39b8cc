-- The numbers of a summary that are sums over the fates of messages.
use Rattle.std.proofs.Common.{ℕ, zero, suc, ◌≡◌, ◌+◌, ◌-◌, ◌<◌, ◌≤◌, ◌==◌, min, Bool, true, false, cond, List, [], ◌∷◌, ◌++◌, length, reverse, Option, Some, None, sum_by, count_by, refl, sym, ◌∙◌, ap, subst, arith, ⊎_elim}
use Rattle.std.proofs.lemmas.Bool.{cases_lt, cond-true, cond-false, lt-ltb, le-ltb, eqb-true, false≢true}
use Rattle.std.proofs.lemmas.List.Sums.{sum_by-cons, sum_by-append}
use Rattle.chorus_ui.specs.declared.ui.Ui.{Ui}
use Rattle.chorus_ui.specs.declared.layout.Layout.{Layout}
use Rattle.chorus_ui.specs.Layout.{IsLayout}
use Rattle.chorus_ui.specs.Name.{same_ui}
use Rattle.chorus_ui.proofs.Names.{same_ui-self}
use Rattle.chorus_entry.specs.declared.entry.Entry.{Entry}
use Rattle.chorus_world.specs.declared.spot.Spot as world
use Rattle.chorus_world.specs.declared.spot.Spot.TheVariants as spots
use Rattle.chorus_world.specs.Views.{on}
use Rattle.chorus_world.specs.Ports.{PortState, fate}
use Rattle.chorus_world.specs.Ports as ports
use Rattle.chorus_world.specs.AcceptedLaws.{accepted_from, accepted_by, taken_from, taken_by}
use Rattle.chorus_world.specs.Fates.{MessageFate, Received, Queued, UnderWay, Discarded, fate_left}
use Rattle.chorus_world.specs.Steps.{is_legal}
use Rattle.chorus_world.proofs.Ports.PortLaws.{keeps_to_capacity}
use Rattle.chorus_show.specs.declared.queues.Spot.{Spot}
use Rattle.chorus_show.specs.declared.queues.Spot.TheVariants.{Held, Moving, Ended}
use Rattle.chorus_show.specs.Summary.{spot_number, same_spot, ports_at, waiting_at}
use Rattle.chorus_show.specs.Tally.{is_spot}
use Rattle.law_summary.specs.Counted.{spot_of, spot_in_world, waiting_in_world}
use Rattle.law_summary.specs.Numbers.{made_ports, left_in, fate_number, has_fate, with_fate, fates_in, fates, SumsOfFates}
use Rattle.law_summary.proofs.Counting.{summaries_count}
use Rattle.law_summary.proofs.Adding.{sum-zero, sum-add, Each, each-more, sum-same}
use Rattle.law_summary.proofs.ByPort.{one, sums-of-ports}

-- Of one port: how many of the first n were received, and how many were not.

-- b and c say whether what is counted is received, and whether it is what was left
abbrev split : Bool → Bool → ℕ → ℕ → ℕ
split b c t n = cond b (min n t) 0 + cond c (n - t) 0

split-none : (b c : Bool) (t : ℕ) → 0 ≡ split b c t 0
split-none true true t = omega arith
split-none true false t = omega arith
split-none false true t = omega arith
split-none false false t = omega arith

split-taken : (b c : Bool) (t n : ℕ) → n < t → split b c t n + cond b 1 0 ≡ split b c t (suc n)
split-taken true true t n l = omega (arith, l)
split-taken true false t n l = omega (arith, l)
split-taken false true t n l = omega (arith, l)
split-taken false false t n l = omega (arith, l)

split-left : (b c : Bool) (t n : ℕ) → t ≤ n → split b c t n + cond c 1 0 ≡ split b c t (suc n)
split-left true true t n l = omega (arith, l)
split-left true false t n l = omega (arith, l)
split-left false true t n l = omega (arith, l)
split-left false false t n l = omega (arith, l)

is-split : (what : MessageFate) (f : PortState) (n : ℕ) → with_fate what f n ≡ split (fate_number Received == fate_number what) (fate_number (fate_left f.spot) == fate_number what) f.taken n
is-split what f zero = split-none (fate_number Received == fate_number what) (fate_number (fate_left f.spot) == fate_number what) f.taken
is-split what f (suc i) =
    let b = fate_number Received == fate_number what in
    let c = fate_number (fate_left f.spot) == fate_number what in
    ap (λ n. n + cond (has_fate what i f) 1 0) (is-split what f i)
    ∙ ⊎_elim
    (λ (l : i < f.taken).
    let is : has_fate what i f ≡ b = ap (λ z. fate_number z == fate_number what) (cond-true _ Received (fate_left f.spot) (lt-ltb i f.taken l)) in
    ap (λ z. split b c f.taken i + cond z 1 0) is ∙ split-taken b c f.taken i l)
    (λ (g : f.taken ≤ i).
    let is : has_fate what i f ≡ c = ap (λ z. fate_number z == fate_number what) (cond-false _ Received (fate_left f.spot) (le-ltb i f.taken g)) in
    ap (λ z. split b c f.taken i + cond z 1 0) is ∙ split-left b c f.taken i g)
    (cases_lt i f.taken)

-- the fate of what was left in the ports of a spot
abbrev fate_of : Spot → MessageFate
fate_of Held = Queued
fate_of Moving = UnderWay
fate_of Ended = Discarded

-- what waits in a port, where it is at this spot
abbrev waits_at : Spot → Option PortState → ℕ
waits_at spot o = cond (is_spot spot (spot_in_world o)) (waiting_in_world o) 0

was-left : (spot : Spot) (s : world.Spot) → (fate_number (fate_left s) == fate_number (fate_of spot)) ≡ is_spot spot (Some (spot_of s))
was-left Held (spots.Held a) = refl
was-left Held (spots.Moving a) = refl
was-left Held spots.Ended = refl
was-left Moving (spots.Held a) = refl
was-left Moving (spots.Moving a) = refl
was-left Moving spots.Ended = refl
was-left Ended (spots.Held a) = refl
was-left Ended (spots.Moving a) = refl
was-left Ended spots.Ended = refl

not-received : (spot : Spot) → (fate_number Received == fate_number (fate_of spot)) ≡ false
not-received Held = refl
not-received Moving = refl
not-received Ended = refl

zero-more : (n : ℕ) → 0 + n ≡ n
zero-more n = omega arith

fates-left : (spot : Spot) (o : Option PortState) → fates_in (fate_of spot) o ≡ waits_at spot o
fates-left spot None = refl
fates-left spot (Some f) =
    let n = length f.accepted in
    is-split (fate_of spot) f n
    ∙ (λ i. split (not-received spot i) (was-left spot f.spot i) f.taken n)
    ∙ zero-more (cond (is_spot spot (Some (spot_of f.spot))) (n - f.taken) 0)

not-left : (s : world.Spot) (n : ℕ) → cond (fate_number (fate_left s) == fate_number Received) n 0 ≡ 0
not-left (spots.Held a) n = refl
not-left (spots.Moving a) n = refl
not-left spots.Ended n = refl

-- no more was received than was accepted
abbrev IsWithin : Option PortState → Type 0
IsWithin o = taken_from o ≤ length (accepted_from o)

fates-received : (o : Option PortState) → IsWithin o → fates_in Received o ≡ taken_from o
fates-received None h = refl
fates-received (Some f) h =
    let n = length f.accepted in
    let none = not-left f.spot (n - f.taken) in
    is-split Received f n ∙ omega (arith, none, h)

spots-whole : (s : world.Spot) (t n : ℕ) → t ≤ n → n ≡ t + cond (is_spot Held (Some (spot_of s))) (n - t) 0 + cond (is_spot Moving (Some (spot_of s))) (n - t) 0 + cond (is_spot Ended (Some (spot_of s))) (n - t) 0
spots-whole (spots.Held a) t n le = omega (arith, le)
spots-whole (spots.Moving a) t n le = omega (arith, le)
spots-whole spots.Ended t n le = omega (arith, le)

waits-whole : (o : Option PortState) → IsWithin o → length (accepted_from o) ≡ taken_from o + waits_at Held o + waits_at Moving o + waits_at Ended o
waits-whole None h = omega arith
waits-whole (Some f) h = spots-whole f.spot f.taken (length f.accepted) h

left-is : (o : Option PortState) → left_in o ≡ waits_at Ended o
left-is None = refl
left-is (Some f) = by f.spot (ports.waiting f)
  where
    by : (s : world.Spot) (n : ℕ) → cond (ports.is_ended s) n 0 ≡ cond (is_spot Ended (Some (spot_of s))) n 0
    by (spots.Held a) n = refl
    by (spots.Moving a) n = refl
    by spots.Ended n = refl

-- Over all ports, which are those of the three spots.

some-count : (xs : List Ui) → Each (λ q. 1 ≤ count_by (same_ui q) xs) xs
some-count [] = tt
some-count (x ∷ xs) =
    let own = sum_by-cons (λ y. one (same_ui x y)) x xs in
    let is : one (same_ui x x) ≡ 1 = ap one (same_ui-self x) in (
      omega (arith, own, is),
      each-more (λ q. 1 ≤ count_by (same_ui q) xs) (λ q. 1 ≤ count_by (same_ui q) (x ∷ xs)) (λ q h. let more = sum_by-cons (λ y. one (same_ui q y)) x xs in omega (arith, more, h)) xs (some-count xs),
    )

once-true : (b : Bool) → 1 ≤ cond b 1 0 → b ≡ true
once-true true h = refl
once-true false h = absurd (omega (arith, h))

sum-each : {X : Type 0} → (f g : X → ℕ) (xs : List X) → Each (λ x. f x ≡ g x) xs → sum_by f xs ≡ sum_by g xs
sum-each f g [] h = refl
sum-each f g (x ∷ xs) h =
    let a = sum_by-cons f x xs in
    let b = sum_by-cons g x xs in
    let rest = sum-each f g xs h.1 in
    let here = h.0 in
    omega (arith, a, b, rest, here)

-- at the spots where they are, and at no other
at-spot : (spot p : Spot) (o : Option PortState) → is_spot p (spot_in_world o) ≡ true → waits_at spot o ≡ cond (same_spot p spot) (waiting_in_world o) 0
at-spot spot p None h = absurd (false≢true h)
at-spot spot p (Some f) h =
    let same : spot_number (spot_of f.spot) ≡ spot_number p = eqb-true (spot_number (spot_of f.spot)) (spot_number p) h in
    ap (λ n. cond (n == spot_number spot) (ports.waiting f) 0) same

cond-sum : {X : Type 0} → (b : Bool) (f : X → ℕ) (xs : List X) → sum_by (λ x. cond b (f x) 0) xs ≡ cond b (sum_by f xs) 0
cond-sum true f xs = refl
cond-sum false f xs = sum-zero xs

module _ (l : Layout) (past : List Entry) (layout : IsLayout l) (legal : is_legal l past ≡ true) where
  abbrev state : Ui → Option PortState
  state q = fate (on q past)

  abbrev at : Spot → List Ui
  at p = ports_at p (reverse past)

  are-there : (p : Spot) → Each (λ q. is_spot p (spot_in_world (state q)) ≡ true) (at p)
  are-there p =
      each-more (λ q. 1 ≤ count_by (same_ui q) (at p)) (λ q. is_spot p (spot_in_world (state q)) ≡ true)
      (λ q h. once-true (is_spot p (spot_in_world (state q))) (subst (λ n. 1 ≤ n) ((summaries_count l past layout legal).ports p q) h)) (at p) (some-count (at p))

  part : (spot p : Spot) → sum_by (λ q. waits_at spot (state q)) (at p) ≡ cond (same_spot p spot) (waiting_at p (reverse past)) 0
  part spot p =
      sum-each (λ q. waits_at spot (state q)) (λ q. cond (same_spot p spot) (waiting_in_world (state q)) 0) (at p)
      (each-more (λ q. is_spot p (spot_in_world (state q)) ≡ true) (λ q. waits_at spot (state q) ≡ cond (same_spot p spot) (waiting_in_world (state q)) 0) (λ q h. at-spot spot p (state q) h) (at p) (are-there p))
      ∙ cond-sum (same_spot p spot) (λ q. waiting_in_world (state q)) (at p)
      ∙ ap (λ n. cond (same_spot p spot) n 0) (sym ((summaries_count l past layout legal).sum p))

  all-parts : (spot : Spot) → sum_by (λ q. waits_at spot (state q)) (made_ports (reverse past)) ≡ cond (same_spot Held spot) (waiting_at Held (reverse past)) 0 + cond (same_spot Moving spot) (waiting_at Moving (reverse past)) 0 + cond (same_spot Ended spot) (waiting_at Ended (reverse past)) 0
  all-parts spot =
      let f : Ui → ℕ = λ q. waits_at spot (state q) in
      sum_by-append f (at Held ++ at Moving) (at Ended)
      ∙ (λ i. sum_by-append f (at Held) (at Moving) i + part spot Ended i)
      ∙ (λ i. (part spot Held i + part spot Moving i) + cond (same_spot Ended spot) (waiting_at Ended (reverse past)) 0)

  left-by : (spot : Spot) → fates (fate_of spot) past ≡ sum_by (λ q. waits_at spot (state q)) (made_ports (reverse past))
  left-by spot = sum-same (λ q. fates_in (fate_of spot) (state q)) (λ q. waits_at spot (state q)) (λ q. fates-left spot (state q)) (made_ports (reverse past))

  within : (q : Ui) → IsWithin (state q)
  within q = by (state q) refl
    where
      by : (o : Option PortState) → state q ≡ o → IsWithin o
      by None e = omega arith
      by (Some f) e = (keeps_to_capacity l past layout legal q f e).0

  received : fates Received past ≡ sum_by (λ q. taken_by q past) (made_ports (reverse past))
  received = sum-same (λ q. fates_in Received (state q)) (λ q. taken_by q past) (λ q. fates-received (state q) (within q)) (made_ports (reverse past))

  pub sums-of-fates : SumsOfFates past
  sums-of-fates =
      let qs = made_ports (reverse past) in
      let s = sums-of-ports l past layout legal in
      let queued : waiting_at Held (reverse past) ≡ fates Queued past = sym (left-by Held ∙ all-parts Held ∙ (let e : waiting_at Held (reverse past) + 0 + 0 ≡ waiting_at Held (reverse past) = omega arith in e)) in
      let moving : waiting_at Moving (reverse past) ≡ fates UnderWay past = sym (left-by Moving ∙ all-parts Moving ∙ (let e : 0 + waiting_at Moving (reverse past) + 0 ≡ waiting_at Moving (reverse past) = omega arith in e)) in
      let gone = s.discarded ∙ sum-same (λ q. left_in (state q)) (λ q. waits_at Ended (state q)) (λ q. left-is (state q)) qs in
      let four : sum_by (λ q. length (accepted_by q past)) qs ≡ sum_by (λ q. taken_by q past + waits_at Held (state q) + waits_at Moving (state q) + waits_at Ended (state q)) qs =
      sum-same (λ q. length (accepted_by q past)) (λ q. taken_by q past + waits_at Held (state q) + waits_at Moving (state q) + waits_at Ended (state q)) (λ q. waits-whole (state q) (within q)) qs in
      let three = sum-add (λ q. taken_by q past + waits_at Held (state q) + waits_at Moving (state q)) (λ q. waits_at Ended (state q)) qs in
      let two = sum-add (λ q. taken_by q past + waits_at Held (state q)) (λ q. waits_at Moving (state q)) qs in
      let first = sum-add (λ q. taken_by q past) (λ q. waits_at Held (state q)) qs in
      let held = left-by Held in
      let under_way = left-by Moving in
      record {
        taken = s.taken ∙ sym received;
        queued = queued;
        moving = moving;
        discarded = gone ∙ sym (left-by Ended);
        whole = omega (arith, s.accepted, s.taken, queued, moving, gone, four, three, two, first, held, under_way);
      }
