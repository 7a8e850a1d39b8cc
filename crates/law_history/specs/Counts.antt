-- What counts tell when all is done, and what stands before a turn.
use Rattle.std.specs.Prelude.{ℕ, zero, suc, ◌≡◌, ◌<◌, ◌+◌, true, List, [], ◌∷◌, ◌++◌, length}
use Rattle.std.specs.List.{All}
use Rattle.law_history.specs.Turns.{Input, Sent, Machine, Turn, before}
use Rattle.law_history.specs.Network.{Network}
use Rattle.law_history.specs.Histories.{Histories, IsScheduled}

-- the sum of f over the numbers below n
abbrev pub total : ℕ → (ℕ → ℕ) → ℕ
total zero f = 0
total (suc n) f = total n f + f n

abbrev pub packets_in : {M K : Type 0} → Input M K → ℕ
packets_in (Input.Command c) = 0
packets_in (Input.Packet a k) = 1

-- what a turn takes comes from a number below n
abbrev pub IsFromBelow : {M K : Type 0} → ℕ → Input M K → Type 0
IsFromBelow n (Input.Command c) = Unit {0}
IsFromBelow n (Input.Packet a k) = a < n

module _ {C M K : Type 0} where
  -- how many packets the turns put, and how many they took
  abbrev pub put_count : List (Turn C M K) → ℕ
  put_count [] = 0
  put_count (t ∷ ts) = length t.puts + put_count ts

  abbrev pub got_count : List (Turn C M K) → ℕ
  got_count [] = 0
  got_count (t ∷ ts) = packets_in t.input + got_count ts

  -- the turn puts for numbers below n, and takes from there
  abbrev pub IsBelow : ℕ → Turn C M K → Type 0
  IsBelow n t = All (λ (s : Sent K). s.to < n) t.puts × IsFromBelow n t.input

-- where as many packets were taken as were put, no link holds one
abbrev pub EqualCountsLeaveNothing : Type 0 → Type 0 → Type 0 → Type 0 → Type 0
EqualCountsLeaveNothing P C M K =
    (m : Machine P C M K) (n : ℕ) (opening closing : Network P C K) (places seats : ℕ → List (Turn C M K)) →
    Histories m opening places seats closing → ((a b : ℕ) → opening.links a b ≡ []) →
    ((p : ℕ) → All (IsBelow n) (places p)) →
    total n (λ p. put_count (places p)) ≡ total n (λ p. got_count (places p)) →
    (a b : ℕ) → a < n → b < n → closing.links a b ≡ []

-- all that stood at a place when a seat had taken a turn there comes before each later turn of the seat
abbrev pub StandsBehindAllSeen : Type 0 → Type 0 → Type 0 → Type 0 → Type 0
StandsBehindAllSeen P C M K =
    (m : Machine P C M K) (opening closing : Network P C K) (places seats : ℕ → List (Turn C M K))
    (turns : List (Turn C M K)) →
    IsScheduled m opening places seats closing turns →
    (p q : ℕ) (us vs ws xs ys : List (Turn C M K)) (d e : Turn C M K) → places p ≡ us ++ d ∷ vs →
    seats q ≡ ws ++ d ∷ (xs ++ e ∷ ys) →
    All (λ (u : Turn C M K). before u e ≡ true) (us ++ d ∷ [])
