-- The laws of races.
-- r and q are races, ms, os and more are moves, the latest first.
use Rattle.std.specs.Prelude.{ℕ, ◌≡◌, ◌<◌, ◌≤◌, true, List, ◌++◌, length, is_some, slice_get, Contains}
use Rattle.law_network.specs.Packets.{AreByLink}
use Rattle.law_explore.specs.Alike.{ActAlike, NetsAlike}
use Rattle.law_explore.specs.Search.{IsHistory, state_after, NormalsSuffice}
use Rattle.law_explore.specs.Walk.{WalkKeeps}
use Rattle.law_explore.specs.declared.moves.Move.{Move}
use Rattle.law_explore.specs.Races.{Race, racing, replaying, next_moves, IsRace, IsWhole, IsNormalWhole, whole_histories}
use Rattle.law_explore.specs.Outcome.{outcome_of, outcome_after}
use Rattle.law_explore.specs.Positions.{PositionsAlike, ComeAlike, next_behind}

-- where each delivers whom one likes, each history has one in normal form that leaves the same, on the nose
abbrev pub RacesNeedNormalsOnly : Type 0
RacesNeedNormalsOnly = (r : Race) (who : ℕ → ℕ) → AreByLink r.net.packets → NormalsSuffice (racing r who)

-- Whoever delivers, and whatever the clocks: the same moves come to the same.

-- two races with the same scripts, on networks that are alike, and who delivers in the second is there and has no
-- script
pub record RacesAlike (r q : Race) (one other : ℕ → ℕ) : Type 0 where
  pub scripts : q.scripts ≡ r.scripts
  pub nets : NetsAlike ActAlike (length r.scripts) r.net q.net
  pub there : (b : ℕ) → is_some (slice_get q.net.callers (other b)) ≡ true
  pub behind : (b k : ℕ) → 1 ≤ k → k ≤ length r.scripts → (one b ≡ k → ⊥) × (other b ≡ k → ⊥)

abbrev pub MovesComeToTheSame : Type 0
MovesComeToTheSame =
    (r q : Race) (one other : ℕ → ℕ) (ms : List Move) → RacesAlike r q one other → IsHistory (racing r one) ms →
    IsHistory (racing q other) ms × (outcome_of q (state_after (racing q other) ms)
    ≡ outcome_of r (state_after (racing r one) ms))

-- A race as a replay goes.

-- a whole history in normal form that comes to the same, and is as long
pub record HasNormalWhole (r : Race) (ms : List Move) : Type 0 where
  pub moves : List Move
  pub whole : IsNormalWhole r moves
  pub comes : outcome_after r moves ≡ outcome_after r ms
  pub as_long : length moves ≡ length ms

abbrev pub NormalsComeToAll : Type 0
NormalsComeToAll = (r : Race) (ms : List Move) → IsRace r → IsWhole r ms → HasNormalWhole r ms

-- the search comes to each whole history in normal form that is not too long, and to no other
abbrev pub RacesAreExplored : Type 0
RacesAreExplored =
    (r : Race) (most : ℕ) (ms : List Move) →
    (IsNormalWhole r ms → length ms < most → Contains (whole_histories r most) ms) ×
    (Contains (whole_histories r most) ms → IsNormalWhole r ms)

-- the loop: at each step what was found, and then what is pending, is what the search finds
abbrev pub RacesAreWalked : Type 0
RacesAreWalked = (r : Race) → WalkKeeps (replaying r) (next_moves r)

-- Of two histories that come to positions that are alike.

-- what comes behind the one may come behind the other; both come to alike positions again, and so to the same outcome,
-- and behind both the same moves may come
pub record GoOnAlike (r : Race) (ms os more : List Move) : Type 0 where
  pub may : IsHistory (replaying r) (more ++ os)
  pub alike : ComeAlike r (more ++ ms) (more ++ os)
  pub comes : outcome_after r (more ++ os) ≡ outcome_after r (more ++ ms)
  pub next : next_behind r (more ++ os) ≡ next_behind r (more ++ ms)

abbrev pub AlikePositionsComeToTheSame : Type 0
AlikePositionsComeToTheSame =
    (r : Race) (ms os more : List Move) → IsRace r → IsHistory (replaying r) os → ComeAlike r ms os →
    IsHistory (replaying r) (more ++ ms) → GoOnAlike r ms os more

-- it does not matter which is the one and which the other, and positions are alike that are alike to a third
pub record IsEquivalence {X : Type 0} (Alike : X → X → Type 0) : Type 0 where
  pub itself : (x : X) → Alike x x
  pub turned : (x y : X) → Alike x y → Alike y x
  pub joined : (x y z : X) → Alike x y → Alike y z → Alike x z

abbrev pub AlikeIsAnEquivalence : Type 0
AlikeIsAnEquivalence = (count : ℕ) → IsEquivalence (PositionsAlike count)
