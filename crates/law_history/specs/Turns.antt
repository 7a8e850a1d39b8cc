-- Places that packets join, and the turns that callers take on them. What a place, a caller, a command and a packet are
-- is left open.
use Rattle.std.specs.Prelude.{ℕ, ◌≡◌, ◌<◌, ◌≤◌, ◌==◌, nat_lt, Bool, true, ◌&&◌, ◌||◌, cond, List, [], ◌∷◌, flat_map}
use Rattle.std.specs.List.{All}
pub use Rattle.law_history.specs.declared.turns.Input.{Input}
pub use Rattle.law_history.specs.declared.turns.Sent.{Sent}

-- what a turn gives: the clock of the first entry that it appends, the place and the caller after it, and what it puts
pub record Outcome (P C K : Type 0) : Type 0 where
  pub first : ℕ
  pub place : P
  pub caller : C
  pub puts : List (Sent K)

-- the machine of a place
pub record Machine (P C M K : Type 0) : Type 0 where
  -- of the place's number, what the turn takes, the place and the caller
  pub turn : ℕ → Input M K → P → C → Outcome P C K
  -- the place, in this state, takes it from this caller
  pub may : ℕ → Input M K → P → C → Bool
  -- where a caller's command is carried out
  pub goes : C → M → ℕ
  -- the last clock of a place and of a caller, and the clock of a packet
  pub clock : P → ℕ
  pub last : C → ℕ
  pub stamp : K → ℕ
  -- a caller to whom an entry with this clock was shown
  pub shown : ℕ → C → C

-- a turn as it is noted
pub record Turn (C M K : Type 0) : Type 0 where
  pub place : ℕ
  pub seat : ℕ
  pub first : ℕ
  pub input : Input M K
  pub before : C
  pub after : C
  pub puts : List (Sent K)

-- What a machine owes: a command is taken at its place alone, and the clock of a turn's first entry is above all clocks
-- that it goes out from, and at most those that it leaves; and where an entry is shown to a caller, its last clock does
-- not fall.
pub record Rises {P C M K : Type 0} (m : Machine P C M K) : Type 0 where
  pub at_place : (p : ℕ) (c : M) (x : P) (w : C) → m.may p (Input.Command c) x w ≡ true → m.goes w c ≡ p
  pub above_place : (p : ℕ) (i : Input M K) (x : P) (w : C) → m.may p i x w ≡ true → m.clock x < (m.turn p i x w).first
  pub above_caller : (p : ℕ) (i : Input M K) (x : P) (w : C) → m.may p i x w ≡ true → m.last w < (m.turn p i x w).first
  pub above_packet : (p a : ℕ) (k : K) (x : P) (w : C) → m.may p (Input.Packet a k) x w ≡ true →
      m.stamp k < (m.turn p (Input.Packet a k) x w).first
  pub to_place : (p : ℕ) (i : Input M K) (x : P) (w : C) → m.may p i x w ≡ true →
      (m.turn p i x w).first ≤ m.clock (m.turn p i x w).place
  pub to_caller : (p : ℕ) (i : Input M K) (x : P) (w : C) → m.may p i x w ≡ true →
      (m.turn p i x w).first ≤ m.last (m.turn p i x w).caller
  pub to_packets : (p : ℕ) (i : Input M K) (x : P) (w : C) → m.may p i x w ≡ true →
      All (λ (s : Sent K). (m.turn p i x w).first ≤ m.stamp s.packet) (m.turn p i x w).puts
  pub to_shown : (clock : ℕ) (w : C) → m.last w ≤ m.last (m.shown clock w)

-- of what is put, the packets for one place
abbrev pub puts_to : {K : Type 0} → ℕ → List (Sent K) → List K
puts_to b [] = []
puts_to b (s ∷ ss) = cond (s.to == b) (s.packet ∷ puts_to b ss) (puts_to b ss)

-- of packets with the places that they come from, those from one place
abbrev pub from_place : {K : Type 0} → ℕ → List (ℕ × K) → List K
from_place a [] = []
from_place a (x ∷ xs) = cond (x.0 == a) (x.1 ∷ from_place a xs) (from_place a xs)

-- the packet that a turn takes, if it comes from this place
abbrev pub packet_from : {M K : Type 0} → ℕ → Input M K → List K
packet_from a (Input.Command c) = []
packet_from a (Input.Packet b k) = from_place a ((b, k) ∷ [])

module _ {C M K : Type 0} where
  abbrev pub is_at : ℕ → Turn C M K → Bool
  is_at p t = t.place == p

  abbrev pub is_by : ℕ → Turn C M K → Bool
  is_by q t = t.seat == q

  -- all that the turns put for the place b, and all that they take from the place a
  abbrev pub put_to : ℕ → List (Turn C M K) → List K
  put_to b ts = flat_map (λ (t : Turn C M K). puts_to b t.puts) ts

  abbrev pub got_from : ℕ → List (Turn C M K) → List K
  got_from a ts = flat_map (λ (t : Turn C M K). packet_from a t.input) ts

  -- by the clock of the first entry, of equal clocks by place
  abbrev pub before : Turn C M K → Turn C M K → Bool
  before t u = nat_lt t.first u.first || ((t.first == u.first) && nat_lt t.place u.place)

  abbrev pub IsInOrder : List (Turn C M K) → Type 0
  IsInOrder [] = Unit {0}
  IsInOrder (t ∷ ts) = All (λ (u : Turn C M K). before t u ≡ true) ts × IsInOrder ts
