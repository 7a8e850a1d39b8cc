-- Tasks on more sites: the events that carry them out, without the deliveries from and to the places of the further sites, carry
-- them out on fewer.
-- l is a layout, n a number of sites, `more` the places of the further sites, ts are tasks, es and fs events, the latest first.
use Rattle.std.proofs.Common.{ℕ, zero, suc, ◌≡◌, ◌≤◌, true, cond, List, [], ◌∷◌, ◌++◌, refl, sym, ◌∙◌, ap, ap₂, subst, arith}
use Rattle.std.specs.List.{All}
use Rattle.std.proofs.lemmas.List.Elements.{All-nil, All-cons, All-head, All-tail, All-append, All-filter, All-weaker, filter-append}
use Rattle.chorus_ui.specs.declared.layout.Layout.{Layout}
use Rattle.chorus_ui.specs.Layout.{IsLayout}
use Rattle.law_machine.specs.PlaceState.{PlaceState}
use Rattle.law_network.specs.Network.{NetState, Event, Enter, Act, Deliver, See, after, opening, schedule, round, rounds, serves, served}
use Rattle.law_network.specs.Schedules.{may_be}
use Rattle.law_network.specs.Tasks.{Task, Do, Drain, CarryOut}
use Rattle.law_network.proofs.Draining.Drains.{idle, round-deliveries}
use Rattle.chorus_replay.proofs.Stepping.{may-suffix}
use Rattle.law_replay.proofs.Places.{layout_on}
use Rattle.law_replay.proofs.Nets.{net_on, EventWithin, is_near, near}
use Rattle.law_replay.proofs.Schedules.{Agree, agree}

-- Events that serve nothing.

abbrev ServesNone : NetState → Event → Type 0
ServesNone net e = serves e net ≡ 0

each-serves-none : (es : List Event) (net : NetState) → served es net ≡ 0 → All (ServesNone net) es
each-serves-none [] net h = All-nil (ServesNone net)
each-serves-none (e ∷ es) net h =
    let rest : served es net ≡ 0 = omega (arith, h) in
    let first : serves e (after es net) ≡ 0 = omega (arith, h) in
    All-cons (ServesNone net) e es (ap (serves e) (sym (idle es net rest)) ∙ first) (each-serves-none es net rest)

all-serve-none : (es : List Event) (net : NetState) → All (ServesNone net) es → served es net ≡ 0
all-serve-none [] net h = refl
all-serve-none (e ∷ es) net h =
    let rest : served es net ≡ 0 = all-serve-none es net (All-tail (ServesNone net) e es h) in
    let first : serves e (after es net) ≡ 0 = ap (serves e) (idle es net rest) ∙ All-head (ServesNone net) e es h in
    omega (arith, rest, first)

serves-on : (n : ℕ) (more : List PlaceState) (net : NetState) (e : Event) → serves e (net_on n more net) ≡ serves e net
serves-on n more net (Enter actor last) = refl
serves-on n more net (Act seat c) = refl
serves-on n more net (See seat clock) = refl
serves-on n more net (Deliver seat a b) = refl

-- An event of a task is within, and near.
abbrev pub TaskWithin : ℕ → Layout → Task → Type 0
TaskWithin n l (Do e) = EventWithin n l e × (is_near l e ≡ true)
TaskWithin n l (Drain seat) = Unit {0}

module _ (n : ℕ) (l : Layout) where
  pub near-first : (e : Event) (es : List Event) → is_near l e ≡ true → near l (e ∷ es) ≡ e ∷ near l es
  near-first e es h = ap (λ b. cond b (e ∷ near l es) (near l es)) h

  round-within : (seat : ℕ) (m : Layout) → All (EventWithin n l) (round m seat)
  round-within seat m =
      All-weaker (λ (e : Event). (a : ℕ) × ((b : ℕ) × (e ≡ Deliver seat a b))) (EventWithin n l) (λ e is. subst (EventWithin n l) (sym is.1.1) tt) (round m seat) (round-deliveries m seat)

  pub rounds-within : (seat : ℕ) (m : Layout) (count : ℕ) → All (EventWithin n l) (rounds m seat count)
  rounds-within seat m zero = All-nil (EventWithin n l)
  rounds-within seat m (suc count) = All-append (EventWithin n l) (round m seat) (rounds m seat count) (round-within seat m) (rounds-within seat m count)

  -- all that carries out tasks that are within is
  pub carried-within : (m : Layout) (ts : List Task) (fs : List Event) → All (TaskWithin n l) ts → CarryOut m ts fs → All (EventWithin n l) fs
  carried-within m [] fs all c = subst (λ (xs : List Event). All (EventWithin n l) xs) (sym c) (All-nil (EventWithin n l))
  carried-within m (Do e ∷ ts) fs all c =
      let rest = carried-within m ts c.0 (All-tail (TaskWithin n l) (Do e) ts all) c.1.1 in
      subst (λ (xs : List Event). All (EventWithin n l) xs) (sym c.1.0) (All-cons (EventWithin n l) e c.0 (All-head (TaskWithin n l) (Do e) ts all).0 rest)
  carried-within m (Drain seat ∷ ts) fs all c =
      let rest = carried-within m ts c.0 (All-tail (TaskWithin n l) (Drain seat) ts all) c.1.1 in
      let d = c.1.0 in
      subst (λ (xs : List Event). All (EventWithin n l) xs) (sym d.rounds) (All-append (EventWithin n l) (rounds m seat d.count) c.0 (rounds-within seat m d.count) rest)

module _ (n : ℕ) (more : List PlaceState) (l : Layout) (shape : IsLayout l) (wider : l.sites ≤ n) (start : opening (layout_on n l) ≡ net_on n more (opening l))
    (fit : (seat : ℕ) → near l (round (layout_on n l) seat) ≡ round l seat) where
  pub rounds-near : (seat count : ℕ) → near l (rounds (layout_on n l) seat count) ≡ rounds l seat count
  rounds-near seat zero = refl
  rounds-near seat (suc count) =
      filter-append (is_near l) (round (layout_on n l) seat) (rounds (layout_on n l) seat count) ∙ ap₂ (λ (xs ys : List Event). xs ++ ys) (fit seat) (rounds-near seat count)

  -- a round that would serve nothing would serve nothing on fewer sites
  dry-down : (seat : ℕ) (fs : List Event) → Agree n more l fs → served (round (layout_on n l) seat) (schedule (layout_on n l) fs) ≡ 0 → served (round l seat) (schedule l (near l fs)) ≡ 0
  dry-down seat fs agrees dry =
      let wide = layout_on n l in
      let net = schedule l (near l fs) in
      let each = each-serves-none (round wide seat) (net_on n more net) (ap (served (round wide seat)) (sym agrees.same) ∙ dry) in
      let here = subst (λ (xs : List Event). All (ServesNone (net_on n more net)) xs) (fit seat) (All-filter (is_near l) (ServesNone (net_on n more net)) (round wide seat) each) in
      all-serve-none (round l seat) net (All-weaker (ServesNone (net_on n more net)) (ServesNone net) (λ e none. sym (serves-on n more net e) ∙ none) (round l seat) here)

  pub carry-down : (ts : List Task) (fs : List Event) → All (TaskWithin n l) ts → may_be (layout_on n l) fs ≡ true → CarryOut (layout_on n l) ts fs → CarryOut l ts (near l fs)
  carry-down [] fs all may c = ap (near l) c
  carry-down (Do e ∷ ts) fs all may c =
      let older = c.0 in
      let head = All-head (TaskWithin n l) (Do e) ts all in
      let may_older = may-suffix (layout_on n l) (e ∷ []) older (ap (may_be (layout_on n l)) (sym c.1.0) ∙ may) in
      (near l older, (ap (near l) c.1.0 ∙ near-first n l e older head.1, carry-down ts older (All-tail (TaskWithin n l) (Do e) ts all) may_older c.1.1))
  carry-down (Drain seat ∷ ts) fs all may c =
      let older = c.0 in
      let d = c.1.0 in
      let wide = layout_on n l in
      let may_older = may-suffix wide (rounds wide seat d.count) older (ap (may_be wide) (sym d.rounds) ∙ may) in
      let agrees = agree n more l shape wider start fs may (carried-within n l wide (Drain seat ∷ ts) fs all c) in
      let turned = ap (near l) d.rounds ∙ filter-append (is_near l) (rounds wide seat d.count) older ∙ ap (λ (xs : List Event). xs ++ near l older) (rounds-near seat d.count) in
      (near l older, (record { count = d.count; rounds = turned; dry = dry-down seat fs agrees d.dry }, carry-down ts older (All-tail (TaskWithin n l) (Drain seat) ts all) may_older c.1.1))
