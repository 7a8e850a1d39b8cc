-- Each delivery that works a packet off lowers the rank of a network, whoever delivers; no event but a command raises it.
use Rattle.std.proofs.Common.{ℕ, ◌≡◌, ◌≤◌, ◌+◌, ◌==◌, true, ◌&&◌, not, List, [], ◌∷◌, ◌++◌, Option, Some, None, is_some, slice_get, refl, sym, ◌∙◌, ap, arith}
use Rattle.std.proofs.lemmas.Bool.{false≢true, and_parts}
use Rattle.chorus_ui.specs.declared.layout.Layout.{Layout}
use Rattle.chorus_ui.specs.Layout.{IsLayout, has_place}
use Rattle.chorus_calls.specs.Callers.{Seated}
use Rattle.law_network.specs.Network.{Event, Enter, Act, Deliver, See, shown, after, opening, schedule}
use Rattle.law_network.specs.Schedules.{may_happen, may_be}
use Rattle.law_network.specs.History.{history}
use Rattle.law_network.proofs.Places.Layouts.{schedule-keeps}
use Rattle.law_network.proofs.Draining.Drains.{after-append}
use Rattle.law_network.proofs.Draining.Ending.{deliver-lower, stay-at}
use Rattle.law_network.specs.Rank.{keys, bounds, rank_by, rank}
use Rattle.law_ending.specs.Rounds.{gives_none, give_none, works, worked}
use Rattle.law_ending.specs.Endings.{DeliveriesAreFew}
use Rattle.law_ending.proofs.Merging.{rank-is}

-- the rank by the history
abbrev pub left_after : Layout → List Event → ℕ
left_after l es = rank_by (bounds (history l es)) (keys (history l es)) (schedule l es)

module _ (l : Layout) (shape : IsLayout l) where
  -- one event
  event-lower : (es : List Event) (e : Event) → may_be l es ≡ true → may_happen e (schedule l es) ≡ true → gives_none e ≡ true → works e (schedule l es) + left_after l (e ∷ es) ≤ left_after l es
  event-lower es (Enter actor last) may happens none = (let same : left_after l (Enter actor last ∷ es) ≡ left_after l es = refl in omega (arith, same))
  event-lower es (Act k c) may happens none = absurd (false≢true none)
  event-lower es (See k c) may happens none = (let same = go (slice_get (schedule l es).callers k) in omega (arith, same))
    where
      go : (o : Option Seated) → rank_by (bounds (history l es)) (keys (history l es)) (shown k c o (schedule l es)) ≡ left_after l es
      go None = refl
      go (Some caller) = refl
  event-lower es (Deliver k x y) may happens none =
      let n = schedule l es in
      let some = is_some (slice_get n.callers k) in
      let two = and_parts (some && has_place n.layout x && has_place n.layout y) (not (x == y)) happens in
      let three = and_parts (some && has_place n.layout x) (has_place n.layout y) two.0 in
      let has : has_place l y ≡ true = ap (λ (z : Layout). has_place z y) (sym (schedule-keeps l es).layout) ∙ three.1 in
      let less = deliver-lower l shape k es x y may has in
      let stay = stay-at x y (slice_get n.callers k) n (history l es) in
      let past = history l es in
      let later = schedule l (Deliver k x y ∷ es) in
      let now : left_after l (Deliver k x y ∷ es) ≡ rank_by (bounds past) (keys past) later =
      ap (λ b. rank_by b (keys (history l (Deliver k x y ∷ es))) later) stay.same_bounds ∙ ap (λ ks. rank_by (bounds past) ks later) stay.same_keys in
      omega (arith, less, now)

few-left : (l : Layout) (es ds : List Event) → IsLayout l → may_be l (ds ++ es) ≡ true → give_none ds ≡ true → worked ds (schedule l es) + left_after l (ds ++ es) ≤ left_after l es
few-left l es [] shape may none = omega arith
few-left l es (d ∷ ds) shape may none =
    let m = and_parts (may_happen d (schedule l (ds ++ es))) (may_be l (ds ++ es)) may in
    let g = and_parts (gives_none d) (give_none ds) none in
    let rest = few-left l es ds shape m.1 g.1 in
    let one = event-lower l shape (ds ++ es) d m.1 m.0 g.0 in
    let same : works d (schedule l (ds ++ es)) ≡ works d (after ds (schedule l es)) = ap (works d) (after-append ds es (opening l)) in
    omega (arith, rest, one, same)

pub may-older : (l : Layout) (ds es : List Event) → may_be l (ds ++ es) ≡ true → may_be l es ≡ true
may-older l [] es h = h
may-older l (d ∷ ds) es h = may-older l ds es (and_parts (may_happen d (schedule l (ds ++ es))) (may_be l (ds ++ es)) h).1

pub deliveries-are-few : DeliveriesAreFew
deliveries-are-few l es ds shape may none =
    let less = few-left l es ds shape may none in
    let was = rank-is l es shape (may-older l ds es may) in
    let now : rank (after ds (schedule l es)) ≡ left_after l (ds ++ es) = ap rank (sym (after-append ds es (opening l))) ∙ rank-is l (ds ++ es) shape may in
    omega (arith, less, was, now)
