-- That a round can lose nothing, and a rule be fair, is shown by some that are.
use Rattle.std.proofs.Common.{◌≡◌, ℕ, zero, suc, ◌+◌, ◌-◌, ◌%◌, ◌<◌, ◌≤◌, cond, List, [], ◌∷◌, length, refl, sym, ap, subst, arith}
use Rattle.std.specs.Prelude.{◌==◌}
use Rattle.std.specs.List.{Contains}
use Rattle.chorus_transport.specs.declared.chunk.Chunk.{Chunk}
use Rattle.chorus_transport.specs.Line.{Line}
use Rattle.chorus_transport.specs.Rounds.{Brought, LosesNothing, filled, Rule, after_rounds, IsFair}

-- so many numbers, from this one on
numbers : ℕ → ℕ → List ℕ
numbers from zero = []
numbers from (suc count) = from ∷ numbers (from + 1) count

each_is_there : (from count k : ℕ) → k < count → Contains (numbers from count) (from + k)
unfolding numbers
each_is_there from zero k lt = absurd (omega (arith, lt))
each_is_there from (suc count) zero lt = (0, omega arith, omega arith)
each_is_there from (suc count) (suc k) lt =
    let rest = each_is_there (from + 1) count k (omega (arith, lt)) in
    let at : from + 1 + k ≡ from + suc k = omega arith in
    subst (Contains (from ∷ numbers (from + 1) count)) at (suc rest.0, omega (arith, rest.1), rest.2)

-- all of a round, and nothing else
abbrev everything : Line → Brought
everything line = record { emissions = numbers (length line.emissions) (length line.sender.kept); acks = length line.acks ∷ [] }

everything_comes : (line : Line) → LosesNothing line (everything line)
everything_comes line =
    record {
      emissions = λ k lt. each_is_there (length line.emissions) (length line.sender.kept) k lt;
      acks = (0, omega arith, refl);
    }

-- each second round loses all, and the others nothing
abbrev each_second : Rule
each_second k line = cond (k % 2 == 0) record { emissions = []; acks = [] } (everything line)

-- the second of two rounds
second_of : (from : ℕ) → (k : ℕ) × (from ≤ k) × (k < from + 2) × (k % 2 ≡ 1)
second_of from = (from + (1 - from % 2), omega arith, omega arith, omega arith)

each_second_fair : (input : List Chunk) (line : Line) → IsFair 2 input each_second line
each_second_fair input line from =
    let s = second_of from in
    let begins = filled input (after_rounds input each_second line s.0) in
    let comes : each_second s.0 begins ≡ everything begins = ap (λ n. cond (n == 0) record { emissions = []; acks = [] } (everything begins)) s.3 in
    (s.0, s.1, s.2, subst (LosesNothing begins) (sym comes) (everything_comes begins))
