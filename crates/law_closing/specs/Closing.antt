-- What is known when places, links and passes are closed, and the schedule that it gives.
-- p, a and b are numbers of places, q is a seat, m a machine, v what the closing pass knows; log, end, pushed, out,
-- popped, hand and left are by places: the entries with remarks, the last state, what was sent on the link, what waits
-- to be sent, what was received, what is in hand, and what the link still has.
use Rattle.std.specs.Prelude.{ℕ, ◌≡◌, ◌<◌, ◌≤◌, ◌+◌, Bool, true, List, [], ◌∷◌, ◌++◌}
use Rattle.std.specs.List.{All, Contains}
use Rattle.chorus_turn.specs.declared.knowledge.Remarked.{Remarked}
use Rattle.chorus_turn.specs.declared.knowledge.Placed.{Placed}
use Rattle.chorus_turn.specs.declared.knowledge.Note.{Note}
use Rattle.chorus_turn.specs.declared.knowledge.Knowledge.{Knowledge}
use Rattle.chorus_turn.specs.Knowing.{seats_of, Shows}
use Rattle.law_history.specs.Turns.{Machine, Turn, Rises, put_to, got_from}
use Rattle.law_history.specs.Network.{Network}
use Rattle.law_history.specs.Histories.{Takes, Follows, Histories, IsScheduled}
use Rattle.law_closing.specs.declared.noted.Noted.{Noted}
use Rattle.law_closing.specs.Remarks.{turns_at, turns_in}

-- of n places, numbered from 1
abbrev pub IsPlace : ℕ → ℕ → Type 0
IsPlace n p = (1 ≤ p) × (p ≤ n)

-- what the places tell when they are closed by a pass that knew v, of all that it and the passes in its notes made
pub record Tells {R : Type 0} (count : ℕ) (log : ℕ → List (Remarked R)) (v : Knowledge R) : Type 0 where
  pub shows : (k : ℕ) → k < count → Shows (k + 1) v (log (k + 1))
  pub seats : (k : ℕ) → k < count → All (λ (r : Remarked R). r.entry.seat < v.made) (log (k + 1))
  pub every : (q : ℕ) → q < v.made → Contains (v.seat ∷ seats_of v.notes) q

-- What a pass keeps of what it made, and of each note of another pass: it is at the places, and its turns go from a new
-- caller of this seat to a last one, each from the caller that the turn before left, to whom entries may have been
-- shown since.
pub record IsThread {P C M K : Type 0} (m : Machine P C M K) (is_new : ℕ → C → Bool) (count : ℕ) (seat : ℕ)
    (mine : List (Placed (Noted C M K))) : Type 0 where
  pub first : C
  pub last : C
  pub new : is_new seat first ≡ true
  pub follows : Follows m first (turns_in mine) last
  pub within : All (λ (m : Placed (Noted C M K)). IsPlace count m.place) mine

-- What a place keeps of its state: it is the state of the machine after its turns. For each other place, what it put is
-- what was sent and then what waits, and what was received is what it took and then what it has in hand.
pub record Keeps {P C M K : Type 0} (m : Machine P C M K) (start : P) (p : ℕ) (log : List (Remarked (Noted C M K)))
    (end : P) (pushed out popped hand : ℕ → List K) : Type 0 where
  pub takes : Takes m p start (turns_at p log) end
  pub put : (b : ℕ) → put_to b (turns_at p log) ≡ pushed b ++ out b
  pub got : (a : ℕ) → popped a ≡ got_from a (turns_at p log) ++ hand a

module _ {P C M K : Type 0} (m : Machine P C M K) (is_new : ℕ → C → Bool) (start : ℕ → P) (count : ℕ) where
  -- by the place that packets come from and then by the place that they go to
  pub record IsClosed (log : ℕ → List (Remarked (Noted C M K))) (v : Knowledge (Noted C M K)) (end : ℕ → P)
      (pushed out popped hand left : ℕ → ℕ → List K) : Type 0 where
    pub finished : Tells count log v
    pub keeps : (p : ℕ) → IsPlace count p → Keeps m (start p) p (log p) (end p) (pushed p) (out p) (λ a. popped a p)
        (λ a. hand a p)
    pub thread : IsThread m is_new count v.seat v.mine
    pub threads : All (λ (n : Note (Noted C M K)). IsThread m is_new count n.seat n.mine) v.notes
    -- of each two places, when the link is settled
    pub settled : (a b : ℕ) → IsPlace count a → IsPlace count b → pushed a b ≡ popped a b ++ left a b
    -- no link comes from elsewhere
    pub apart : (a b : ℕ) → (IsPlace count a → ⊥) → IsPlace count b → popped a b ≡ []

  -- From nothing but new callers histories lead to these places and to what is left for them, and so does a schedule.
  -- They have of each place and of each pass just its turns, in their order, and of a seat that was not drawn none.
  pub record HasSchedule (log : ℕ → List (Remarked (Noted C M K))) (v : Knowledge (Noted C M K)) (end : ℕ → P)
      (out hand left : ℕ → ℕ → List K) : Type 0 where
    pub callers : ℕ → C
    pub closing : Network P C K
    pub places : ℕ → List (Turn C M K)
    pub seats : ℕ → List (Turn C M K)
    pub turns : List (Turn C M K)
    pub new : (q : ℕ) → is_new q (callers q) ≡ true
    pub histories : Histories m record { places = start; links = λ a b. []; callers = callers } places seats closing
    pub scheduled : IsScheduled m record {
      places = start;
      links = λ a b. [];
      callers = callers;
    } places seats closing turns
    pub ends : (p : ℕ) → IsPlace count p → closing.places p ≡ end p
    pub rest : (a b : ℕ) → IsPlace count a → IsPlace count b → closing.links a b ≡ hand a b ++ (left a b ++ out a b)
    pub made : (p : ℕ) → IsPlace count p → places p ≡ turns_at p (log p)
    pub mine : seats v.seat ≡ turns_in v.mine
    pub noted : All (λ (n : Note (Noted C M K)). seats n.seat ≡ turns_in n.mine) v.notes
    pub undrawn : (q : ℕ) → v.made ≤ q → seats q ≡ []

-- where places, links and passes were closed, there is a schedule of the machine that gives what they hand out
abbrev pub ClosedHasSchedule : Type 0 → Type 0 → Type 0 → Type 0 → Type 0
ClosedHasSchedule P C M K =
    (m : Machine P C M K) (is_new : ℕ → C → Bool) (start : ℕ → P) (count : ℕ) (log : ℕ → List (Remarked (Noted C M K)))
    (v : Knowledge (Noted C M K)) (end : ℕ → P) (pushed out popped hand left : ℕ → ℕ → List K) →
    Rises m → ((q : ℕ) → (c : C) × (is_new q c ≡ true)) →
    IsClosed m is_new start count log v end pushed out popped hand left →
    HasSchedule m is_new start count log v end out hand left
