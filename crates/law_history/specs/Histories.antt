-- Histories of places, links and callers, and a schedule that gives them.
use Rattle.std.specs.Prelude.{ℕ, ◌≡◌, ◌≤◌, true, List, [], ◌∷◌, ◌++◌, map}
use Rattle.std.specs.List.{filter}
use Rattle.law_history.specs.Turns.{Input, Machine, Turn, Rises, is_at, is_by, put_to, got_from, IsInOrder}
use Rattle.law_history.specs.Network.{Network, Event, run, IsSchedule}

-- the event that a turn is
abbrev pub event_for : {M K : Type 0} → ℕ → ℕ → ℕ → Input M K → Event M
event_for p q clock (Input.Command c) = Event.Gives q clock c
event_for p q clock (Input.Packet a k) = Event.Carries q clock a p

module _ {P C M K : Type 0} (m : Machine P C M K) where
  -- the caller was shown what it had seen when the turn began
  abbrev pub event_of : Turn C M K → Event M
  event_of t = event_for t.place t.seat (m.last t.before) t.input

  -- what is noted of the turn is what the machine does at the place p in the state x
  pub record IsTurn (p : ℕ) (x : P) (t : Turn C M K) : Type 0 where
    pub place : t.place ≡ p
    pub may : m.may p t.input x t.before ≡ true
    pub first : t.first ≡ (m.turn p t.input x t.before).first
    pub after : t.after ≡ (m.turn p t.input x t.before).caller
    pub puts : t.puts ≡ (m.turn p t.input x t.before).puts

  -- the turns, one after the other, take the place p from the one state to the other
  abbrev pub Takes : ℕ → P → List (Turn C M K) → P → Type 0
  Takes p x [] y = x ≡ y
  Takes p x (t ∷ ts) y = IsTurn p x t × Takes p (m.turn p t.input x t.before).place ts y

  -- The second caller is the first, to whom entries may have been shown: only its last clock may be higher.
  abbrev pub IsShown : C → C → Type 0
  IsShown c d = d ≡ m.shown (m.last d) c

  -- each turn begins with the caller that the one before left, to whom entries may have been shown since
  abbrev pub Follows : C → List (Turn C M K) → C → Type 0
  Follows c [] d = c ≡ d
  Follows c (t ∷ ts) d = IsShown c t.before × Follows t.after ts d

  -- Of each place and of each seat the turns in order. A place's turns by a seat are the seat's turns at the place. Of
  -- each pair of places what was there or was put is what was got and then what is left.
  pub record Histories (opening : Network P C K) (places seats : ℕ → List (Turn C M K))
      (closing : Network P C K) : Type 0 where
    pub takes : (p : ℕ) → Takes p (opening.places p) (places p) (closing.places p)
    pub follows : (q : ℕ) → Follows (opening.callers q) (seats q) (closing.callers q)
    pub shared : (p q : ℕ) → filter (is_by q) (places p) ≡ filter (is_at p) (seats q)
    pub in_order : (a b : ℕ) → opening.links a b ++ put_to b (places a) ≡ got_from a (places b) ++ closing.links a b

  -- the turns in one order, which is that of each place and that of each seat, are a schedule that leads from the one
  -- network to the other
  pub record IsScheduled (opening : Network P C K) (places seats : ℕ → List (Turn C M K)) (closing : Network P C K)
      (turns : List (Turn C M K)) : Type 0 where
    pub schedule : IsSchedule m (map event_of turns) opening
    pub places_end : (p : ℕ) → (run m (map event_of turns) opening).places p ≡ closing.places p
    pub links_end : (a b : ℕ) → (run m (map event_of turns) opening).links a b ≡ closing.links a b
    pub callers_end : (q : ℕ) → (run m (map event_of turns) opening).callers q ≡ closing.callers q
    pub sorted : IsInOrder turns
    pub by_place : (p : ℕ) → filter (is_at p) turns ≡ places p
    pub by_seat : (q : ℕ) → filter (is_by q) turns ≡ seats q

-- from the histories of finitely many places, all links and all callers there is a schedule of the network machine that
-- gives just these
abbrev pub HistoriesAreScheduled : Type 0 → Type 0 → Type 0 → Type 0 → Type 0
HistoriesAreScheduled P C M K =
    (m : Machine P C M K) (count : ℕ) (opening closing : Network P C K) (places seats : ℕ → List (Turn C M K)) →
    Rises m →
    ((p : ℕ) → count ≤ p → places p ≡ []) → Histories m opening places seats closing →
    (turns : List (Turn C M K)) × IsScheduled m opening places seats closing turns
