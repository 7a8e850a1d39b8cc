-- Histories that are drawn.
-- r is a race, ms are moves, the latest first, x and y are what the generator has come to, most is how many moves a history has at
-- most, count is how many histories are drawn.
use Rattle.std.proofs.Common.{ℕ, zero, suc, ◌≡◌, ◌+◌, ◌-◌, ◌%◌, ◌≤◌, Bool, true, false, cond, List, [], ◌∷◌, length, refl, sym, ◌∙◌, ap, arith}
use Rattle.std.specs.List.{Contains}
use Rattle.std.proofs.lemmas.Bool.{false≢true}
use Rattle.std.proofs.lemmas.Nat.{mod_below}
use Rattle.std.proofs.lemmas.List.Elements.{Contains-get_or}
use Rattle.law_explore.specs.declared.moves.Move.{Move}
use Rattle.law_explore.specs.declared.moves.Move.TheVariants.{Go}
use Rattle.law_explore.specs.Positions.{next_behind}
use Rattle.law_explore.specs.Races.{Race, may_come, replaying}
use Rattle.law_explore.specs.Search.{IsHistory, state_after}
use Rattle.law_explore.proofs.Exploring.{lists-next}
use Rattle.chorus_draw.specs.Draws.{next_state, number_of}
use Rattle.chorus_explore.specs.Drawn.{drawn_from, drawn_histories, has_ended, move_by}

-- the move that is drawn may come
among : (moves : List Move) (number : ℕ) → has_ended moves ≡ false → Contains moves (move_by moves number)
among [] number e = absurd (false≢true (sym e))
among (m ∷ moves) number e =
    Contains-get_or (m ∷ moves) (number % length (m ∷ moves)) (Go 0) (mod_below number (length (m ∷ moves)) (omega arith))

pub drawn-may : (r : Race) (ms : List Move) (number : ℕ) → has_ended (next_behind r ms) ≡ false → may_come r.net.layout (move_by (next_behind r ms) number) (state_after (replaying r) ms) ≡ true
drawn-may r ms number e =
    (lists-next r (state_after (replaying r) ms) (move_by (next_behind r ms) number)).1 (among (next_behind r ms) number e)

-- One history.

pub drawn-stops : (r : Race) (ms : List Move) (x : ℕ) → drawn_from r 0 ms x ≡ (ms, x)
unfolding drawn_from
drawn-stops r ms x = refl

pub drawn-ends : (r : Race) (most : ℕ) (ms : List Move) (x : ℕ) → has_ended (next_behind r ms) ≡ true → drawn_from r most ms x ≡ (ms, x)
unfolding drawn_from
drawn-ends r zero ms x e = refl
drawn-ends r (suc most) ms x e =
    ap (λ b. cond b (ms, x) (drawn_from r most (move_by (next_behind r ms) (number_of (next_state x)) ∷ ms) (next_state x))) e

pub drawn-goes : (r : Race) (most : ℕ) (ms : List Move) (x : ℕ) → has_ended (next_behind r ms) ≡ false
    → drawn_from r (suc most) ms x ≡ drawn_from r most (move_by (next_behind r ms) (number_of (next_state x)) ∷ ms) (next_state x)
unfolding drawn_from
drawn-goes r most ms x e =
    ap (λ b. cond b (ms, x) (drawn_from r most (move_by (next_behind r ms) (number_of (next_state x)) ∷ ms) (next_state x))) e

-- who goes on from here by as many moves as are left has gone from the start
abbrev pub LeadsOn : Race → ℕ → ℕ → List Move → ℕ → Type 0
LeadsOn r x i ms y = (more : ℕ) → drawn_from r (i + more) [] x ≡ drawn_from r more ms y

pub leads-on : (r : Race) (x i : ℕ) (ms : List Move) (y : ℕ) → LeadsOn r x i ms y → has_ended (next_behind r ms) ≡ false → (os : List Move) (z : ℕ)
    → os ≡ move_by (next_behind r ms) (number_of z) ∷ ms → z ≡ next_state y → LeadsOn r x (i + 1) os z
leads-on r x i ms y on e os z is goes more =
    let n : i + 1 + more ≡ i + suc more = omega arith in
    ap (λ k. drawn_from r k [] x) n ∙ on (suc more) ∙ drawn-goes r more ms y e
    ∙ sym (ap (λ hs. drawn_from r more hs z) is ∙ ap (λ w. drawn_from r more (move_by (next_behind r ms) (number_of w) ∷ ms) w) goes)

pub leads-to-end : (r : Race) (x i most : ℕ) (ms : List Move) (y : ℕ) → LeadsOn r x i ms y → i ≤ most → has_ended (next_behind r ms) ≡ true → drawn_from r most [] x ≡ (ms, y)
leads-to-end r x i most ms y on le e =
    let n : most ≡ i + (most - i) = omega (arith, le) in
    ap (λ k. drawn_from r k [] x) n ∙ on (most - i) ∙ drawn-ends r (most - i) ms y e

pub leads-to-stop : (r : Race) (x most : ℕ) (ms : List Move) (y : ℕ) → LeadsOn r x most ms y → drawn_from r most [] x ≡ (ms, y)
leads-to-stop r x most ms y on =
    let n : most ≡ most + 0 = omega arith in
    ap (λ k. drawn_from r k [] x) n ∙ on 0 ∙ drawn-stops r ms y

module _ (r : Race) where
  pub drawn-short : (most : ℕ) (ms : List Move) (x : ℕ) → length (drawn_from r most ms x).0 ≤ most + length ms
  unfolding drawn_from
  drawn-short zero ms x = omega arith
  drawn-short (suc most) ms x =
      by (has_ended (next_behind r ms)) (drawn-short most (move_by (next_behind r ms) (number_of (next_state x)) ∷ ms) (next_state x))
    where
      by : (b : Bool) → length (drawn_from r most (move_by (next_behind r ms) (number_of (next_state x)) ∷ ms) (next_state x)).0 ≤ most + suc (length ms)
          → length (cond b (ms, x) (drawn_from r most (move_by (next_behind r ms) (number_of (next_state x)) ∷ ms) (next_state x))).0 ≤ suc most + length ms
      by true le = omega arith
      by false le = omega (arith, le)

  pub drawn-history : (most : ℕ) (ms : List Move) (x : ℕ) → IsHistory (replaying r) ms → IsHistory (replaying r) (drawn_from r most ms x).0
  unfolding drawn_from
  drawn-history zero ms x h = h
  drawn-history (suc most) ms x h =
      by (has_ended (next_behind r ms)) refl (λ may. drawn-history most (move_by (next_behind r ms) (number_of (next_state x)) ∷ ms) (next_state x) (may, h))
    where
      by : (b : Bool) → has_ended (next_behind r ms) ≡ b
          → (may_come r.net.layout (move_by (next_behind r ms) (number_of (next_state x))) (state_after (replaying r) ms) ≡ true
          → IsHistory (replaying r) (drawn_from r most (move_by (next_behind r ms) (number_of (next_state x)) ∷ ms) (next_state x)).0)
          → IsHistory (replaying r) (cond b (ms, x) (drawn_from r most (move_by (next_behind r ms) (number_of (next_state x)) ∷ ms) (next_state x))).0
      by true e ih = h
      by false e ih = ih (drawn-may r ms (number_of (next_state x)) e)

-- So many of them.

pub no-histories : (r : Race) (most x : ℕ) → drawn_histories r most 0 x ≡ []
unfolding drawn_histories
no-histories r most x = refl

pub histories-go : (r : Race) (most count x : ℕ) → drawn_histories r most (suc count) x ≡ (drawn_from r most [] x).0 ∷ drawn_histories r most count (drawn_from r most [] x).1
unfolding drawn_histories
histories-go r most count x = refl
