-- The network machine: places, a list of packets from each place to each other, and callers. One thing happens after
-- the other.
use Rattle.std.specs.Prelude.{ℕ, ◌≡◌, ◌==◌, true, ◌&&◌, cond, List, [], ◌∷◌, ◌++◌}
use Rattle.law_history.specs.Turns.{Input, Sent, Outcome, Machine, puts_to}

pub record Network (P C K : Type 0) : Type 0 where
  pub places : ℕ → P
  pub links : ℕ → ℕ → List K
  pub callers : ℕ → C

-- a seat, to which an entry with this clock was shown, gives a command, or takes the first packet from a place to
-- another to that place
pub data Event (M : Type 0) : Type 0 where
  Gives : (seat shown : ℕ) (command : M) → Event M
  Carries : (seat shown from to : ℕ) → Event M

abbrev pub set : {A : Type 0} → ℕ → A → (ℕ → A) → ℕ → A
set p x f q = cond (p == q) x (f q)

-- what is on the links when the place p has put packets
abbrev pub sent : {K : Type 0} → ℕ → List (Sent K) → (ℕ → ℕ → List K) → ℕ → ℕ → List K
sent p ss f a b = cond (p == a) (f a b ++ puts_to b ss) (f a b)

-- the link from a to b with other packets
abbrev pub relinked : {K : Type 0} → ℕ → ℕ → List K → (ℕ → ℕ → List K) → ℕ → ℕ → List K
relinked a b ks f x y = cond ((a == x) && (b == y)) ks (f x y)

module _ {P C M K : Type 0} (m : Machine P C M K) where
  -- the place p takes a turn by the seat q; the links are as given, but for what it puts
  abbrev pub ended : ℕ → ℕ → (ℕ → ℕ → List K) → Outcome P C K → Network P C K → Network P C K
  ended p q links o n =
      record { places = set p o.place n.places; links = sent p o.puts links; callers = set q o.caller n.callers }

  -- the caller of a seat, to whom an entry with this clock was shown
  abbrev pub caller_shown : ℕ → ℕ → Network P C K → C
  caller_shown q clock n = m.shown clock (n.callers q)

  -- as the caller w
  abbrev pub did : ℕ → ℕ → C → Input M K → (ℕ → ℕ → List K) → Network P C K → Network P C K
  did p q w i links n = ended p q links (m.turn p i (n.places p) w) n

  abbrev pub carried : ℕ → C → ℕ → ℕ → List K → Network P C K → Network P C K
  carried q w a b [] n = n
  carried q w a b (k ∷ ks) n = did b q w (Input.Packet a k) (relinked a b ks n.links) n

  abbrev pub happens : Event M → Network P C K → Network P C K
  happens (Event.Gives q clock c) n =
      let w = caller_shown q clock n in did (m.goes w c) q w (Input.Command c) n.links n
  happens (Event.Carries q clock a b) n = carried q (caller_shown q clock n) a b (n.links a b) n

  -- the place takes it
  abbrev pub May : ℕ → C → Input M K → Network P C K → Type 0
  May p w i n = m.may p i (n.places p) w ≡ true

  abbrev pub MayCarry : C → ℕ → ℕ → List K → Network P C K → Type 0
  MayCarry w a b [] n = ⊥
  MayCarry w a b (k ∷ ks) n = May b w (Input.Packet a k) n

  abbrev pub MayHappen : Event M → Network P C K → Type 0
  MayHappen (Event.Gives q clock c) n =
      let w = caller_shown q clock n in May (m.goes w c) w (Input.Command c) n
  MayHappen (Event.Carries q clock a b) n = MayCarry (caller_shown q clock n) a b (n.links a b) n

  abbrev pub run : List (Event M) → Network P C K → Network P C K
  run [] n = n
  run (e ∷ es) n = run es (happens e n)

  -- each event is one that may happen when it comes
  abbrev pub IsSchedule : List (Event M) → Network P C K → Type 0
  IsSchedule [] n = Unit {0}
  IsSchedule (e ∷ es) n = MayHappen e n × IsSchedule es (happens e n)
