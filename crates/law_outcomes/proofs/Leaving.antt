-- What is left of scripts are their commands behind those that were answered.
-- r is a race, ms are moves, the latest first, j is the place of a script.
use Rattle.std.proofs.Common.{ℕ, zero, suc, ◌≡◌, Bool, true, false, cond, List, [], ◌∷◌, length, map, drop, Option, Some, None, is_some, slice_get, slice_set, refl, sym, ◌∙◌, ap}
use Rattle.std.specs.Option.{option_map}
use Rattle.std.proofs.lemmas.Bool.{and_parts, false≢true}
use Rattle.chorus_calls.specs.Callers.{Seated}
use Rattle.law_network.specs.Network.{Act, Deliver}
use Rattle.law_explore.specs.declared.moves.Move.{Move}
use Rattle.law_explore.specs.declared.moves.Move.TheVariants.{Go, Carry}
use Rattle.law_explore.specs.Races.{Order, Position, Race, Told, are_linked, behind_next, event_of, is_now, is_ready_by, may_come, next_of, own_by, position_after, replaying, seat_0, with_answer}
use Rattle.law_explore.specs.Search.{IsHistory, state_after}
use Rattle.law_moments.specs.Read.{left_behind}

begins : (scripts : List (List Order)) → scripts ≡ left_behind scripts (map (λ (os : List Order). []) scripts)
begins [] = refl
begins (os ∷ scripts) = ap (λ rest. os ∷ rest) (begins scripts)

one-less : (n : ℕ) (cs : List Order) → behind_next (Some (drop n cs)) ≡ drop (suc n) cs
one-less zero [] = refl
one-less zero (c ∷ cs) = refl
one-less (suc n) [] = refl
one-less (suc n) (c ∷ cs) = one-less n cs

-- one answer more, and one command less
answered : (scripts : List (List Order)) (told : List (List Told)) (j : ℕ) (d : Order) (a : Told) → next_of (slice_get (left_behind scripts told) j) ≡ Some d
    → slice_set (left_behind scripts told) j (behind_next (slice_get (left_behind scripts told) j)) ≡ left_behind scripts (slice_set told j (with_answer (Some a) (slice_get told j)))
answered [] told j d a e = absurd (cc)
answered (cs ∷ scripts) [] j d a e = absurd (cc)
answered (cs ∷ scripts) (its ∷ told) zero d a e = ap (λ left. left ∷ left_behind scripts told) (one-less (length its) cs)
answered (cs ∷ scripts) (its ∷ told) (suc j) d a e = ap (λ left. drop (length its) cs ∷ left) (answered scripts told j d a e)

module _ (r : Race) where
  abbrev pub at : List Move → Position
  at ms = state_after (replaying r) ms

  abbrev IsLeft : Position → Type 0
  IsLeft s = s.left ≡ left_behind r.scripts s.told

  module _ (ms : List Move) (ih : IsLeft (at ms)) where
    gone : (j : ℕ) (o : Option Order) → next_of (slice_get (at ms).left j) ≡ o → is_ready_by (option_map (λ (x : Order). Act (suc j) x.command) o) (at ms).net ≡ true
        → IsLeft (position_after (option_map (λ (x : Order). Act (suc j) x.command) o) (Go j) (at ms))
    gone j None e ready = absurd (false≢true ready)
    gone j (Some d) e ready = by (slice_get (at ms).net.callers (suc j)) (and_parts (is_some (slice_get (at ms).net.callers (suc j))) true ready).0
      where
        by : (w : Option Seated) → is_some w ≡ true → slice_set (at ms).left j (behind_next (slice_get (at ms).left j)) ≡ left_behind r.scripts (slice_set (at ms).told j (with_answer (own_by d.command (at ms).net w) (slice_get (at ms).told j)))
        by None some = absurd (false≢true some)
        by (Some w) some =
            ap (λ left. slice_set left j (behind_next (slice_get left j))) ih
            ∙ answered r.scripts (at ms).told j d _ (ap (λ left. next_of (slice_get left j)) (sym ih) ∙ e)

    carried : (a b : ℕ) (q : Bool) → is_ready_by (cond q (Some (Deliver 0 a b)) None) (at ms).net ≡ true → IsLeft (position_after (cond q (Some (Deliver 0 a b)) None) (Carry a b) (at ms))
    carried a b false ready = absurd (false≢true ready)
    carried a b true ready = ih

  ready-of : (m : Move) (ms : List Move) → may_come r.net.layout m (at ms) ≡ true → is_ready_by (event_of r.net.layout seat_0 m (at ms).left) (at ms).net ≡ true
  ready-of m ms h = (and_parts (is_ready_by (event_of r.net.layout seat_0 m (at ms).left) (at ms).net) (is_now m (at ms).left (at ms).net) h).0

  pub left-is : (ms : List Move) → IsHistory (replaying r) ms → (at ms).left ≡ left_behind r.scripts (at ms).told
  left-is [] h = begins r.scripts
  left-is (Go j ∷ ms) h = gone ms (left-is ms h.1) j (next_of (slice_get (at ms).left j)) refl (ready-of (Go j) ms h.0)
  left-is (Carry a b ∷ ms) h = carried ms (left-is ms h.1) a b (are_linked r.net.layout a b) (ready-of (Carry a b) ms h.0)
