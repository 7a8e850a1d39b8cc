-- The list of the program's words: each row has one spelling. A number stands as its decimal, with no sign and no
-- leading zero.
use Rattle.std.specs.Prelude.{ℕ, ◌≡◌, ◌^◌, ◌<◌, ◌≤◌, List, [], ◌∷◌, codes, decimal}
use Rattle.chorus_ui.specs.Layout.{IsLayout}
use Rattle.chorus_words.specs.declared.words.TheConstants.{LOAD_LIMIT}
use Rattle.chorus_words.specs.declared.words.Words.{Words}
use Rattle.chorus_words.specs.declared.words.Words.TheVariants.{Replay, Run, RunOn, Load, Audit, Judge, JudgeFor, Promises, PromisesFor, Picture, Lossy, Crew, Explore, ExploreMost, ExploreFrom, Check, CheckMost, CheckDrawn}

abbrev pub spelled : Words → List (List ℕ)
spelled Replay = codes "replay" ∷ []
spelled Run = codes "run" ∷ []
spelled (RunOn turns) = codes "run" ∷ decimal turns ∷ []
spelled (Load first commands) = codes "load" ∷ decimal first ∷ decimal commands ∷ []
spelled (Audit sites turns) = codes "audit" ∷ decimal sites ∷ decimal turns ∷ []
spelled Judge = codes "judge" ∷ []
spelled (JudgeFor sites turns) = codes "judge" ∷ decimal sites ∷ decimal turns ∷ []
spelled Promises = codes "promises" ∷ []
spelled (PromisesFor sites turns) = codes "promises" ∷ decimal sites ∷ decimal turns ∷ []
spelled (Picture sites turns) = codes "picture" ∷ decimal sites ∷ decimal turns ∷ []
spelled (Lossy first) = codes "lossy" ∷ decimal first ∷ []
spelled (Crew first commands) = codes "crew" ∷ decimal first ∷ decimal commands ∷ []
spelled Explore = codes "explore" ∷ []
spelled (ExploreMost most) = codes "explore" ∷ decimal most ∷ []
spelled (ExploreFrom most first) = codes "explore" ∷ decimal most ∷ decimal first ∷ []
spelled Check = codes "check" ∷ []
spelled (CheckMost most) = codes "check" ∷ decimal most ∷ []
spelled (CheckDrawn count first) = codes "drawn" ∷ decimal count ∷ decimal first ∷ []

-- a site may have so many places: a layout has 1, 2 or 4
abbrev pub IsTurns : ℕ → Type 0
IsTurns turns = IsLayout (record { sites = 1; turns = turns })

-- each number is within its limit, and the sites and their places are a layout
abbrev pub IsWithin : Words → Type 0
IsWithin Replay = Unit {0}
IsWithin Run = Unit {0}
IsWithin (RunOn turns) = IsTurns turns
IsWithin (Load first commands) = (first < 2 ^ 64) × (commands ≤ LOAD_LIMIT)
IsWithin (Audit sites turns) = IsLayout (record { sites = sites; turns = turns })
IsWithin Judge = Unit {0}
IsWithin (JudgeFor sites turns) = IsLayout (record { sites = sites; turns = turns })
IsWithin Promises = Unit {0}
IsWithin (PromisesFor sites turns) = IsLayout (record { sites = sites; turns = turns })
IsWithin (Picture sites turns) = IsLayout (record { sites = sites; turns = turns })
IsWithin (Lossy first) = first < 2 ^ 64
IsWithin (Crew first commands) = (first < 2 ^ 64) × (commands ≤ LOAD_LIMIT)
IsWithin Explore = Unit {0}
IsWithin (ExploreMost most) = most < 2 ^ 32
IsWithin (ExploreFrom most first) = (most < 2 ^ 32) × (first < 2 ^ 64)
IsWithin Check = Unit {0}
IsWithin (CheckMost most) = most < 2 ^ 32
IsWithin (CheckDrawn count first) = (count < 2 ^ 32) × (first < 2 ^ 64)

-- these words ask this
abbrev pub Ask : List (List ℕ) → Words → Type 0
Ask words asked = (words ≡ spelled asked) × IsWithin asked
