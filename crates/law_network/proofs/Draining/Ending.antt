-- Each drain ends: after some number of rounds one more serves nothing.
use Rattle.std.proofs.Common.{ℕ, zero, suc, ◌≡◌, ◌<◌, ◌≤◌, ◌+◌, ◌==◌, nat_le, Bool, true, false, ◌&&◌, not, cond, List, [], ◌∷◌, ◌++◌, Option, Some, None, is_some, slice_get, refl, sym, ◌∙◌, ap, subst, append_assoc, arith}
use Rattle.std.specs.List.{All}
use Rattle.std.proofs.lemmas.Bool.{false≢true, and_from, le-leb, not_from_false}
use Rattle.std.proofs.lemmas.List.Elements.{All-nil, All-cons, All-head, All-tail, All-append, All-weaker}
use Rattle.chorus_ui.specs.declared.ui.Ui.{Ui}
use Rattle.chorus_ui.specs.declared.layout.Layout.{Layout}
use Rattle.chorus_ui.specs.Layout as layout
use Rattle.chorus_ui.specs.Layout.{IsLayout, has_place}
use Rattle.chorus_entry.specs.declared.entry.Entry.{Entry}
use Rattle.chorus_entry.specs.declared.packet.Packet.{Packet}
use Rattle.chorus_world.specs.Steps.{is_legal}
use Rattle.chorus_world.proofs.Sorted.Holders.{run_is_legal}
use Rattle.chorus_calls.specs.Callers.{Seated}
use Rattle.law_machine.specs.PlaceMachine.{begun_by}
use Rattle.law_network.specs.Packets.{first_on}
use Rattle.law_network.specs.Network.{NetState, Event, Deliver, numbers, place_numbers, place, works_off, delivered, after, opening, schedule, from_one, from_each, round, rounds, one_if, serves, served}
use Rattle.law_network.specs.Stands.{Stands, actor_of}
use Rattle.law_network.specs.Schedules.{may_happen, may_be}
use Rattle.law_network.proofs.Places.Layouts.{schedule-keeps}
use Rattle.law_network.specs.History.{history}
use Rattle.law_network.proofs.Events.InOrder.{in-order}
use Rattle.law_network.specs.Tasks.{Do, Drain, IsDrain, TasksCarriedOut}
use Rattle.place_unsettled.specs.declared.wait.Key.{Key}
use Rattle.law_network.proofs.Standing.Turning.{stands-there}
use Rattle.law_network.specs.Rank.{Bounds, bounds, keys, rank_by}
use Rattle.law_network.proofs.Draining.Routes.{keys-apart, keys-follow}
use Rattle.law_network.proofs.Merge.Parts.{All-reverse}
use Rattle.law_network.proofs.Events.Said.{said_on, said_at, work-goes, said-work}
use Rattle.law_network.proofs.Commands.Performing.{actor_in, some-actor, delivered-actors}
use Rattle.law_network.proofs.Draining.Drains.{after-append, rounds-last}
use Rattle.law_network.proofs.Draining.Lowering.{delivery-lower}
use Rattle.law_network.proofs.Draining.Fronts.{packet-told}
use Rattle.law_network.proofs.Draining.Bounds.{place-within, bounds-follow}

-- A delivery's entries answer no command, so what bounds the rank stays.

pub record Stay (past newer : List Entry) : Type 0 where
  pub same_bounds : bounds (newer ++ past) ≡ bounds past
  pub same_keys : keys (newer ++ past) ≡ keys past

pub stay-at : (x y : ℕ) (o : Option Seated) (n : NetState) (past : List Entry) → Stay past (said_at x y o n)
stay-at x y None n past = record { same_bounds = refl; same_keys = refl }
stay-at x y (Some caller) n past = go (first_on x y n.packets)
  where
    go : (o : Option Packet) → Stay past (said_on y caller o n)
    go None = record { same_bounds = refl; same_keys = refl }
    go (Some q) =
        let t = begun_by (place y n) caller q in
        let g = work-goes q t in
        subst (Stay past) (sym (said-work q t)) (record { same_bounds = bounds-follow g.newer past g.follow; same_keys = keys-follow g.newer past g.follow })

-- a delivery of the seat k between two places of the layout
pub record IsBetween (l : Layout) (k : ℕ) (e : Event) : Type 0 where
  pub from : ℕ
  pub to : ℕ
  pub is : e ≡ Deliver k from to
  pub has_from : has_place l from ≡ true
  pub has_to : has_place l to ≡ true
  pub apart : (from == to) ≡ false

numbers-in : (m p : ℕ) → All (λ (i : ℕ). (p ≤ i) × (i < p + m)) (numbers m p)
numbers-in zero p = All-nil (λ (i : ℕ). (p ≤ i) × (i < p + zero))
numbers-in (suc m) p =
    All-cons (λ (i : ℕ). (p ≤ i) × (i < p + suc m)) p (numbers m (p + 1)) (omega arith, omega arith)
    (All-weaker (λ (i : ℕ). (p + 1 ≤ i) × (i < p + 1 + m)) (λ (i : ℕ). (p ≤ i) × (i < p + suc m)) (λ i h. (let a = h.0 in let b = h.1 in (omega (arith, a), omega (arith, b)))) (numbers m (p + 1)) (numbers-in m (p + 1)))

places-in : (l : Layout) → All (λ (i : ℕ). has_place l i ≡ true) (place_numbers l)
places-in l =
    All-weaker (λ (i : ℕ). (1 ≤ i) × (i < 1 + layout.places l)) (λ (i : ℕ). has_place l i ≡ true)
    (λ i h. (let a = h.0 in let b = h.1 in and_from (nat_le 1 i) (nat_le i (layout.places l)) (le-leb 1 i a) (le-leb i (layout.places l) (omega (arith, b)))))
    (place_numbers l) (numbers-in (layout.places l) 1)

one-between : (l : Layout) (k a : ℕ) (bs : List ℕ) → has_place l a ≡ true → All (λ (i : ℕ). has_place l i ≡ true) bs → All (IsBetween l k) (from_one k a bs)
one-between l k a [] h hs = All-nil (IsBetween l k)
one-between l k a (b ∷ bs) h hs =
    let Has : ℕ → Type 0 = λ (i : ℕ). has_place l i ≡ true in
    go (a == b) refl (All-head Has b bs hs) (one-between l k a bs h (All-tail Has b bs hs))
  where
    go : (c : Bool) → (a == b) ≡ c → has_place l b ≡ true → All (IsBetween l k) (from_one k a bs) → All (IsBetween l k) (cond c [] (Deliver k a b ∷ []) ++ from_one k a bs)
    go true e f ih = ih
    go false e f ih = All-cons (IsBetween l k) (Deliver k a b) (from_one k a bs) (record { from = a; to = b; is = refl; has_from = h; has_to = f; apart = e }) ih

each-between : (l : Layout) (k : ℕ) (as_ bs : List ℕ) → All (λ (i : ℕ). has_place l i ≡ true) as_ → All (λ (i : ℕ). has_place l i ≡ true) bs → All (IsBetween l k) (from_each k as_ bs)
each-between l k [] bs h hs = All-nil (IsBetween l k)
each-between l k (a ∷ rest) bs h hs =
    let Has : ℕ → Type 0 = λ (i : ℕ). has_place l i ≡ true in
    All-append (IsBetween l k) (from_one k a bs) (from_each k rest bs) (one-between l k a bs (All-head Has a rest h) hs) (each-between l k rest bs (All-tail Has a rest h) hs)

pub round-between : (l : Layout) (k : ℕ) → All (IsBetween l k) (round l k)
round-between l k =
    All-reverse (IsBetween l k) (from_each k (place_numbers l) (place_numbers l)) (each-between l k (place_numbers l) (place_numbers l) (places-in l) (places-in l))

module _ (l : Layout) (shape : IsLayout l) (k : ℕ) where
  -- so may be delivered
  pub some-caller : (n : NetState) (a : Ui) → actor_of n k ≡ Some a → is_some (slice_get n.callers k) ≡ true
  some-caller n a h = (let c = some-actor (slice_get n.callers k) a h in ap is_some c.1.0)

  between-may : (ds es : List Event) (a : Ui) → All (IsBetween l k) ds → may_be l es ≡ true → actor_of (schedule l es) k ≡ Some a → (may_be l (ds ++ es) ≡ true) × (actor_of (schedule l (ds ++ es)) k ≡ Some a)
  between-may [] es a h may who = (may, who)
  between-may (d ∷ ds) es a h may who =
      let rest = between-may ds es a (All-tail (IsBetween l k) d ds h) may who in
      let b = All-head (IsBetween l k) d ds h in
      let m = schedule l (ds ++ es) in
      let layout_is = (schedule-keeps l (ds ++ es)).layout in
      let from : has_place m.layout b.from ≡ true = ap (λ (z : Layout). has_place z b.from) layout_is ∙ b.has_from in
      let to : has_place m.layout b.to ≡ true = ap (λ (z : Layout). has_place z b.to) layout_is ∙ b.has_to in
      let some = some-caller m a rest.1 in
      let happens : may_happen (Deliver k b.from b.to) m ≡ true =
      and_from (is_some (slice_get m.callers k) && has_place m.layout b.from && has_place m.layout b.to) (not (b.from == b.to))
      (and_from (is_some (slice_get m.callers k) && has_place m.layout b.from) (has_place m.layout b.to) (and_from (is_some (slice_get m.callers k)) (has_place m.layout b.from) some from) to)
      (not_from_false (b.from == b.to) b.apart) in
      subst (λ e. (may_be l (e ∷ ds ++ es) ≡ true) × (actor_of (schedule l (e ∷ ds ++ es)) k ≡ Some a)) (sym b.is) (
        and_from (may_happen (Deliver k b.from b.to) m) (may_be l (ds ++ es)) happens rest.0,
        delivered-actors k b.from b.to m (slice_get m.callers k) k refl ∙ rest.1,
      )

  -- one delivery, by what bounds the rank before it
  pub deliver-lower : (es : List Event) (x y : ℕ) → may_be l es ≡ true → has_place l y ≡ true → rank_by (bounds (history l es)) (keys (history l es)) (schedule l (Deliver k x y ∷ es)) + serves (Deliver k x y) (schedule l es) ≤ rank_by (bounds (history l es)) (keys (history l es)) (schedule l es)
  deliver-lower es x y may has = by-caller (slice_get (schedule l es).callers k)
    where
      n : NetState
      n = schedule l es

      s : Stands (schedule l es) (history l es)
      s = (in-order l es shape may).0

      shape_n : IsLayout (schedule l es).layout
      shape_n = subst IsLayout (sym (schedule-keeps l es).layout) shape

      legal : is_legal (schedule l es).layout (history l es) ≡ true
      legal = run_is_legal (schedule l es).layout (actor_of (schedule l es)) (history l es) s.run

      by-packet : (caller : Seated) (o : Option Packet) → first_on x y (schedule l es).packets ≡ o → rank_by (bounds (history l es)) (keys (history l es)) (works_off k x y caller o (schedule l es)) + one_if (is_some o) ≤ rank_by (bounds (history l es)) (keys (history l es)) (schedule l es)
      by-packet caller None e = omega arith
      by-packet caller (Some q) e =
          delivery-lower (bounds (history l es)) (keys (history l es)) (keys-apart (history l es)) k x y caller q (schedule l es) e
          (stands-there (schedule l es) y s.places (ap (λ (z : Layout). has_place z y) (schedule-keeps l es).layout ∙ has))
          (place-within (schedule l es) (history l es) y shape_n legal s) (packet-told (schedule l es) (history l es) shape_n s x y q e)

      by-caller : (o : Option Seated) → rank_by (bounds (history l es)) (keys (history l es)) (delivered k x y o (schedule l es)) + one_if (is_some o && is_some (first_on x y (schedule l es).packets)) ≤ rank_by (bounds (history l es)) (keys (history l es)) (schedule l es)
      by-caller None = omega arith
      by-caller (Some caller) = by-packet caller (first_on x y (schedule l es).packets) refl

  -- what bounds the rank, and the ports and routes of the history, are these
  abbrev Stays : Bounds → List Key → List Event → Type 0
  Stays w ks es = (bounds (history l es) ≡ w) × (keys (history l es) ≡ ks)

  -- and a list of them
  all-lower : (w : Bounds) (ks : List Key) (ds es : List Event) (a : Ui) → All (IsBetween l k) ds → may_be l es ≡ true → actor_of (schedule l es) k ≡ Some a → Stays w ks es → (rank_by w ks (schedule l (ds ++ es)) + served ds (schedule l es) ≤ rank_by w ks (schedule l es)) × Stays w ks (ds ++ es)
  all-lower w ks [] es a h may who count = (omega arith, count)
  all-lower w ks (d ∷ ds) es a h may who count =
      let rest = all-lower w ks ds es a (All-tail (IsBetween l k) d ds h) may who count in
      let b = All-head (IsBetween l k) d ds h in
      let more = between-may ds es a (All-tail (IsBetween l k) d ds h) may who in
      let now : schedule l (ds ++ es) ≡ after ds (schedule l es) = after-append ds es (opening l) in
      let one = deliver-lower (ds ++ es) b.from b.to more.0 b.has_to in
      let lower = subst (λ js. rank_by w js (schedule l (Deliver k b.from b.to ∷ ds ++ es)) + serves (Deliver k b.from b.to) (schedule l (ds ++ es)) ≤ rank_by w js (schedule l (ds ++ es))) rest.1.1
      (subst (λ i. rank_by i (keys (history l (ds ++ es))) (schedule l (Deliver k b.from b.to ∷ ds ++ es)) + serves (Deliver k b.from b.to) (schedule l (ds ++ es)) ≤ rank_by i (keys (history l (ds ++ es))) (schedule l (ds ++ es))) rest.1.0 one) in
      let same : serves (Deliver k b.from b.to) (schedule l (ds ++ es)) ≡ serves (Deliver k b.from b.to) (after ds (schedule l es)) = ap (serves (Deliver k b.from b.to)) now in
      let first = rest.0 in
      let n = schedule l (ds ++ es) in
      subst (λ e. (rank_by w ks (schedule l (e ∷ ds ++ es)) + (serves e (after ds (schedule l es)) + served ds (schedule l es)) ≤ rank_by w ks (schedule l es)) × Stays w ks (e ∷ ds ++ es)) (sym b.is) (
        omega (arith, lower, first, same),
        (
          (stay-at b.from b.to (slice_get n.callers k) n (history l (ds ++ es))).same_bounds ∙ rest.1.0,
          (stay-at b.from b.to (slice_get n.callers k) n (history l (ds ++ es))).same_keys ∙ rest.1.1,
        ),
      )

  -- rounds, as long as one serves something
  rounds-end : (fuel : ℕ) (w : Bounds) (ks : List Key) (es : List Event) (a : Ui) → may_be l es ≡ true → actor_of (schedule l es) k ≡ Some a → Stays w ks es → rank_by w ks (schedule l es) ≤ fuel → (m : ℕ) × (served (round l k) (schedule l (rounds l k m ++ es)) ≡ 0)
  rounds-end zero w ks es a may who count le =
      (0, (let less = (all-lower w ks (round l k) es a (round-between l k) may who count).0 in omega (arith, less, le)))
  rounds-end (suc fuel) w ks es a may who count le =
      let lower = all-lower w ks (round l k) es a (round-between l k) may who count in
      let more = between-may (round l k) es a (round-between l k) may who in
      go (served (round l k) (schedule l es)) refl lower.0 (rounds-end fuel w ks (round l k ++ es) a more.0 more.1 lower.1)
    where
      go : (s : ℕ) → served (round l k) (schedule l es) ≡ s → rank_by w ks (schedule l (round l k ++ es)) + served (round l k) (schedule l es) ≤ rank_by w ks (schedule l es) → (rank_by w ks (schedule l (round l k ++ es)) ≤ fuel → (m : ℕ) × (served (round l k) (schedule l (rounds l k m ++ (round l k ++ es))) ≡ 0)) → (m : ℕ) × (served (round l k) (schedule l (rounds l k m ++ es)) ≡ 0)
      go zero e less ih = (0, e)
      go (suc s) e less ih =
          let rest = ih (omega (arith, e, less, le)) in
          let m = rest.0 in
          let same : schedule l (rounds l k (suc m) ++ es) ≡ schedule l (rounds l k m ++ (round l k ++ es)) =
          after-append (rounds l k (suc m)) es (opening l) ∙ sym (rounds-last l k m (schedule l es))
          ∙ ap (after (rounds l k m)) (sym (after-append (round l k) es (opening l))) ∙ sym (after-append (rounds l k m) (round l k ++ es) (opening l)) in
          (suc m, ap (served (round l k)) same ∙ rest.1)

  -- a drain by a caller ends
  pub drain-ends : (es : List Event) (a : Ui) → may_be l es ≡ true → actor_of (schedule l es) k ≡ Some a → (m : ℕ) × IsDrain l k es (rounds l k m ++ es)
  drain-ends es a may who =
      let w = bounds (history l es) in
      let ks = keys (history l es) in
      let e = rounds-end (rank_by w ks (schedule l es)) w ks es a may who (refl, refl) (omega arith) in
      (e.0, record { count = e.0; rounds = refl; dry = e.1 })

  -- and what it is may be, with the same callers
  pub rounds-may : (m : ℕ) (es : List Event) (a : Ui) → may_be l es ≡ true → actor_of (schedule l es) k ≡ Some a → (may_be l (rounds l k m ++ es) ≡ true) × (actor_of (schedule l (rounds l k m ++ es)) k ≡ Some a)
  rounds-may zero es a may who = (may, who)
  rounds-may (suc m) es a may who =
      let rest = rounds-may m es a may who in
      subst (λ fs. (may_be l fs ≡ true) × (actor_of (schedule l fs) k ≡ Some a)) (sym (append_assoc (round l k) (rounds l k m) es))
      (between-may (round l k) (rounds l k m ++ es) a (round-between l k) rest.0 rest.1)

-- Tasks.

pub caller-actor : (o : Option Seated) → is_some o ≡ true → (a : Ui) × (actor_in o ≡ Some a)
caller-actor None h = absurd (false≢true h)
caller-actor (Some c) h = (c.actor, refl)

pub tasks-carried-out : TasksCarriedOut
tasks-carried-out l [] shape h = ([], (refl, refl))
tasks-carried-out l (Do e ∷ ts) shape h =
    let rest = tasks-carried-out l ts shape h.1 in
    let es = rest.0 in
    (e ∷ es, ((es, (refl, rest.1.0)), and_from (may_happen e (schedule l es)) (may_be l es) (h.0 es rest.1.0) rest.1.1))
tasks-carried-out l (Drain k ∷ ts) shape h =
    let rest = tasks-carried-out l ts shape h.1 in
    let es = rest.0 in
    let who = caller-actor (slice_get (schedule l es).callers k) (h.0 es rest.1.0) in
    let d = drain-ends l shape k es who.0 rest.1.1 who.1 in
    (rounds l k d.0 ++ es, ((es, (d.1, rest.1.0)), (rounds-may l shape k d.0 es who.0 rest.1.1 who.1).0))
