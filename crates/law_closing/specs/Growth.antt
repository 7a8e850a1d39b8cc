-- One turn more, of a place and of a pass; and packets that move.
-- m is a machine, p the number of a place, x its state, w a caller, i what the turn takes, e its first entry and es the
-- others, mine what a pass made.
use Rattle.std.specs.Prelude.{ℕ, ◌≡◌, Bool, true, List, ◌∷◌, ◌++◌}
use Rattle.chorus_entry.specs.declared.entry.Entry.{Entry}
use Rattle.chorus_turn.specs.declared.knowledge.Remarked.{Remarked}
use Rattle.chorus_turn.specs.declared.knowledge.Placed.{Placed}
use Rattle.chorus_turn.specs.Journals.{with_place}
use Rattle.law_history.specs.declared.turns.Input.{Input}
use Rattle.law_history.specs.Turns.{Machine, puts_to, packet_from}
use Rattle.law_history.specs.Histories.{IsShown}
use Rattle.law_closing.specs.declared.noted.Noted.{Noted}
use Rattle.law_closing.specs.Remarks.{remarked}
use Rattle.law_closing.specs.Closing.{IsPlace, IsThread, Keeps}

-- the remark of the turn that a machine takes
abbrev pub noted : {P C M K : Type 0} → Machine P C M K → ℕ → Input M K → P → C → Noted C M K
noted m p i x w =
    let o = m.turn p i x w in record { nth = 0; input = i; before = w; after = o.caller; puts = o.puts }

-- a place has taken a turn more; what it put stands last in what was sent and what waits, and what it took is no longer
-- in hand
abbrev pub TurnsKeepPlaces : Type 0 → Type 0 → Type 0 → Type 0 → Type 0
TurnsKeepPlaces P C M K =
    (m : Machine P C M K) (start : P) (p : ℕ) (log : List (Remarked (Noted C M K))) (x : P)
    (pushed out popped hand : ℕ → List K)
    (i : Input M K) (w : C) (e : Entry) (es : List Entry) (pushed_now out_now hand_now : ℕ → List K) →
    Keeps m start p log x pushed out popped hand → m.may p i x w ≡ true → e.clock ≡ (m.turn p i x w).first →
    ((b : ℕ) → pushed_now b ++ out_now b ≡ (pushed b ++ out b) ++ puts_to b (m.turn p i x w).puts) →
    ((a : ℕ) → hand a ≡ packet_from a i ++ hand_now a) →
    Keeps m start p (log ++ remarked (noted m p i x w) (e ∷ es))
    (m.turn p i x w).place pushed_now out_now popped hand_now

-- packets were sent of those that wait, or received into the hand, and no entry was appended
abbrev pub MovesKeepPlaces : Type 0 → Type 0 → Type 0 → Type 0 → Type 0
MovesKeepPlaces P C M K =
    (m : Machine P C M K) (start : P) (p : ℕ) (log : List (Remarked (Noted C M K))) (x : P)
    (pushed out popped hand pushed_now out_now popped_now hand_now more : ℕ → List K) →
    Keeps m start p log x pushed out popped hand →
    ((b : ℕ) → pushed_now b ++ out_now b ≡ pushed b ++ out b) → ((a : ℕ) → popped_now a ≡ popped a ++ more a) →
    ((a : ℕ) → hand_now a ≡ hand a ++ more a) → Keeps m start p log x pushed_now out_now popped_now hand_now

-- a pass has taken a turn more, at the place p, from the caller that its last turn left, to whom entries may have been
-- shown since
abbrev pub TurnsKeepPasses : Type 0 → Type 0 → Type 0 → Type 0 → Type 0
TurnsKeepPasses P C M K =
    (m : Machine P C M K) (is_new : ℕ → C → Bool) (count q p : ℕ) (mine : List (Placed (Noted C M K)))
    (t : IsThread m is_new count q mine) (seen : List (List (Remarked (Noted C M K))))
    (r : Noted C M K) (e : Entry) (es : List Entry) → IsPlace count p → IsShown m t.last r.before →
    (u : IsThread m is_new count q (mine ++ with_place p seen (remarked r (e ∷ es)))) × (u.last ≡ r.after)
