-- What becomes of a chunk that is emitted, by the last digit of its draw in base four, computed from a first number that draws it.
use Rattle.std.proofs.Common.{ℕ, ◌≡◌, List, [], ◌∷◌, codes, refl}
use Rattle.chorus_lossy.specs.Line.{Put, Arrive}
use Rattle.chorus_lossy.specs.Rounds.{Moment, opening, filled, emission}

abbrev hello : List ℕ
hello = codes "hello"

-- the text is put as one chunk, and emitted once in the round
abbrev emitted : ℕ → ℕ → Moment
emitted round first = emission round 0 (filled hello (opening first))

-- 0: it is lost, but in a fourth round
lost : ((emitted 1 2).events ≡ Put hello ∷ []) × ((emitted 1 2).held ≡ []) × ((emitted 1 2).lost ≡ 1)
unfolding filled emission
lost = (refl, refl, refl)

not-lost : ((emitted 4 2).events ≡ Arrive 0 hello ∷ Put hello ∷ []) × ((emitted 4 2).held ≡ []) × ((emitted 4 2).lost ≡ 0)
unfolding filled emission
not-lost = (refl, refl, refl)

-- 1: it arrives twice
twice : ((emitted 1 10).events ≡ Arrive 0 hello ∷ Arrive 0 hello ∷ Put hello ∷ []) × ((emitted 1 10).held ≡ []) × ((emitted 1 10).lost ≡ 0)
unfolding filled emission
twice = (refl, refl, refl)

-- 2: it is held
held : ((emitted 1 7).events ≡ Put hello ∷ []) × ((emitted 1 7).held ≡ (0, hello) ∷ []) × ((emitted 1 7).lost ≡ 0)
unfolding filled emission
held = (refl, refl, refl)

-- 3: it arrives once
once : ((emitted 1 0).events ≡ Arrive 0 hello ∷ Put hello ∷ []) × ((emitted 1 0).held ≡ []) × ((emitted 1 0).lost ≡ 0)
unfolding filled emission
once = (refl, refl, refl)
