-- The clocks of the turns of a place, and of a seat, rise.
use Rattle.std.proofs.Common.{ℕ, ◌≡◌, ◌<◌, ◌≤◌, Bool, true, false, cond, List, [], ◌∷◌, sym, ◌∙◌, ap, subst, arith}
use Rattle.std.specs.List.{All, filter}
use Rattle.std.proofs.lemmas.List.Elements.{All-nil, All-cons, All-head, All-tail, All-weaker}
use Rattle.law_history.specs.Turns.{Input, Sent, Outcome, Machine, Turn, Rises, is_at}
use Rattle.law_history.specs.Histories.{IsTurn, Takes, Follows}
use Rattle.law_history.proofs.Lists.{filter_takes, eqb_same}
use Rattle.law_history.proofs.Order.{IsRising}

module _ {P C M K : Type 0} (m : Machine P C M K) where
  -- the clocks about one turn
  pub record IsSound (t : Turn C M K) : Type 0 where
    pub above : m.last t.before < t.first
    pub packet : (a : ℕ) (k : K) → t.input ≡ Input.Packet a k → m.stamp k < t.first
    pub left : t.first ≤ m.last t.after
    pub puts : All (λ (s : Sent K). t.first ≤ m.stamp s.packet) t.puts

  sound : Rises m → (p : ℕ) (x : P) (t : Turn C M K) → IsTurn m p x t → IsSound t
  sound r p x t h =
      let o : Outcome P C K = m.turn p t.input x t.before in
      record {
        above = (let lt = r.above_caller p t.input x t.before h.may in let e = h.first in omega arith);
        packet = λ a k e.
            let lt = r.above_packet p a k x t.before (subst (λ i. m.may p i x t.before ≡ true) e h.may) in
            let same = h.first ∙ ap (λ i. (m.turn p i x t.before).first) e in
            omega arith;
        left = (let le = r.to_caller p t.input x t.before h.may in
            subst (λ w. t.first ≤ m.last w) (sym h.after) (subst (λ n. n ≤ m.last o.caller) (sym h.first) le));
        puts = (let le = r.to_packets p t.input x t.before h.may in
            subst (λ ss. All (λ (s : Sent K). t.first ≤ m.stamp s.packet) ss) (sym h.puts) (subst (λ n. All (λ (s : Sent K). n ≤ m.stamp s.packet) o.puts) (sym h.first) le));
      }

  pub sound_takes : Rises m → (p : ℕ) (ts : List (Turn C M K)) (x y : P) → Takes m p x ts y → All IsSound ts
  sound_takes r p [] x y h = All-nil IsSound
  sound_takes r p (t ∷ ts) x y h = All-cons IsSound t ts (sound r p x t h.0) (sound_takes r p ts (m.turn p t.input x t.before).place y h.1)

  pub at_takes : (p : ℕ) (ts : List (Turn C M K)) (x y : P) → Takes m p x ts y → All (λ (t : Turn C M K). t.place ≡ p) ts
  at_takes p [] x y h = All-nil (λ (t : Turn C M K). t.place ≡ p)
  at_takes p (t ∷ ts) x y h =
      let next = at_takes p ts (m.turn p t.input x t.before).place y h.1 in
      let first = h.0 in
      All-cons (λ (t : Turn C M K). t.place ≡ p) t ts first.place next

  abbrev Above : ℕ → Turn C M K → Type 0
  Above n t = n < t.first

  above_weaker : (a b : ℕ) (ts : List (Turn C M K)) → a ≤ b → All (Above b) ts → All (Above a) ts
  above_weaker a b ts le = All-weaker (Above b) (Above a) (λ t lt. omega arith) ts

  pub rising_takes : Rises m → (p : ℕ) (ts : List (Turn C M K)) (x y : P) → Takes m p x ts y → All (λ (t : Turn C M K). m.clock x < t.first) ts × IsRising ts
  rising_takes r p [] x y h = (All-nil (Above (m.clock x)), tt)
  rising_takes r p (t ∷ ts) x y h =
      let o : Outcome P C K = m.turn p t.input x t.before in
      let is = h.0 in
      let next = rising_takes r p ts o.place y h.1 in
      let from = r.above_place p t.input x t.before is.may in
      let to = r.to_place p t.input x t.before is.may in
      let same = is.first in
      let here : m.clock x < t.first = omega arith in (
        All-cons (Above (m.clock x)) t ts here (above_weaker (m.clock x) (m.clock o.place) ts (omega arith) next.0),
        (above_weaker t.first (m.clock o.place) ts (omega arith) next.0, next.1),
      )

  pub rising_follows : Rises m → (ts : List (Turn C M K)) (c d : C) → All IsSound ts → Follows m c ts d → All (λ (t : Turn C M K). m.last c < t.first) ts × IsRising ts
  rising_follows r [] c d s h = (All-nil (Above (m.last c)), tt)
  rising_follows r (t ∷ ts) c d s h =
      let is = All-head IsSound t ts s in
      let next = rising_follows r ts t.after d (All-tail IsSound t ts s) h.1 in
      let above : m.last (m.shown (m.last t.before) c) < t.first = subst (λ w. m.last w < t.first) h.0 is.above in
      let up = r.to_shown (m.last t.before) c in
      let here : m.last c < t.first = omega (arith, above, up) in
      let to = is.left in (
        All-cons (Above (m.last c)) t ts here (above_weaker (m.last c) (m.last t.after) ts (omega arith) next.0),
        (above_weaker t.first (m.last t.after) ts to next.0, next.1),
      )

all_rest : {X : Type 0} (F : X → Type 0) (t : X) (us : List X) (b : Bool) → All F (cond b (t ∷ us) us) → All F us
all_rest F t us true h = All-tail F t us h
all_rest F t us false h = h

-- what holds of the turns of each place holds of all
pub all_from_places : {C M K : Type 0} (F : Turn C M K → Type 0) (ts : List (Turn C M K)) → ((p : ℕ) → All F (filter (is_at p) ts)) → All F ts
all_from_places F [] h = All-nil F
all_from_places F (t ∷ ts) h =
    let own = subst (All F) (filter_takes (is_at t.place) t ts (eqb_same t.place)) (h t.place) in
    All-cons F t ts (All-head F t (filter (is_at t.place) ts) own) (all_from_places F ts (λ p. all_rest F t (filter (is_at p) ts) (is_at p t) (h p)))
