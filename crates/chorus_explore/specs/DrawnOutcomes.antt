-- What histories come to that are drawn, told beside what a search found.
-- c is a scenario, r is its race, hs are histories that are told beside those that were found, drawn are histories that were
-- drawn, h is one, first is the first state of the generator, e what a search came to, old and new before and after.
use Rattle.std.specs.Prelude.{ℕ, ◌≡◌, ◌<◌, ◌+◌, true, false, List, [], ◌∷◌, ◌++◌, length, map, reverse, Contains}
use Rattle.std.specs.List.{All}
use Rattle.std.specs.Global.{Vec}
use Rattle.law_explore.specs.declared.moves.Move.{Move}
use Rattle.law_explore.specs.Explores.{told_number}
use Rattle.law_explore.specs.Members.{AreOnce}
use Rattle.law_explore.specs.Races.{Race, IsWhole}
use Rattle.law_replay.specs.Shown.{race_of}
use Rattle.chorus_scene.specs.Scene.{Scene}
use Rattle.chorus_scene.specs.declared.limits.TheConstants.{STEPS_LIMIT}
use Rattle.explore_report.specs.declared.explored.Explored.{Explored}
use Rattle.explore_report.specs.Findings.{AreFindings, HaveSums}
use Rattle.chorus_explore.specs.declared.drawn_outcomes.Outcomes.{Outcomes}
use Rattle.chorus_explore.specs.declared.exploration.TheConstants.{HISTORIES_DRAWN}
use Rattle.chorus_explore.specs.Drawings.{one_drawn}
use Rattle.chorus_explore.specs.Drawn.{drawn_histories}
use Rattle.chorus_explore.specs.Stages.{AreFresh, comes}

-- The promise.

-- the histories that are drawn from the first state on where a limit was met
abbrev pub drawn_at : Scene → ℕ → List (List Move)
drawn_at c first = drawn_histories (race_of c) STEPS_LIMIT HISTORIES_DRAWN first

-- a whole history of more moves than the bound
abbrev pub IsBeyond : Race → ℕ → List Move → Type 0
IsBeyond r bound h = IsWhole r h × (bound < length h)

-- they are those of the drawn ones that are whole and have more moves than the bound
pub record AreBeyond (r : Race) (bound : ℕ) (drawn hs : List (List Move)) : Type 0 where
  pub among : All (λ (h : List Move). Contains drawn h × IsBeyond r bound h) hs
  pub every : (h : List Move) → Contains drawn h → IsBeyond r bound h → Contains hs h

-- How they are added.

-- these are counted too, in the findings and in the number of histories, and nothing else is changed
pub record AlsoTells (c : Scene) (hs : List (List Move)) (old new : Explored) : Type 0 where
  pub findings : (found : List (List Move)) → AreFindings (comes c) found old.findings.items.items →
      AreFindings (comes c) (found ++ hs) new.findings.items.items
  pub histories : (found : ℕ) → old.histories ≡ told_number found → new.histories ≡ told_number (found + length hs)
  pub sums : HaveSums new.findings.items.items
  pub events : new.events ≡ old.events
  pub limits : (new.is_cut ≡ old.is_cut) × (new.bound ≡ old.bound)

abbrev pub TellsOne : Scene → List Move → Explored → Explored → Type 0
TellsOne c h old new = AlsoTells c (h ∷ []) old new

pub record AddsThese (c : Scene) (drawn : List (List Move)) (old new : Explored) : Type 0 where
  pub hs : List (List Move)
  pub beyond : AreBeyond (race_of c) old.bound drawn hs
  pub once : AreOnce hs
  pub tells : AlsoTells c hs old new

abbrev pub AddsDrawn : Scene → ℕ → Explored → Explored → Type 0
AddsDrawn c first old new = AddsThese c (drawn_at c first) old new

abbrev pub AddsDrawnIfCut : Scene → ℕ → Explored → Explored → Type 0
AddsDrawnIfCut c first old new =
    (old.is_cut ≡ true → AddsDrawn c first old new) × (old.is_cut ≡ false → new ≡ old)

-- On the way.

abbrev pub histories_in : List (Vec Move) → List (List Move)
histories_in vs = map (λ (v : Vec Move). reverse v.items) vs

abbrev pub drawn_by : Outcomes → List (List Move)
drawn_by o = histories_in o.told.items

-- it was not told yet, and is to be
pub record IsToldBeside (c : Scene) (bound : ℕ) (hs : List (List Move)) (h : List Move) : Type 0 where
  pub beyond : IsBeyond (race_of c) bound h
  pub fresh : Contains hs h → ⊥

-- it was told, or is not to be
abbrev pub IsLeftOut : Scene → ℕ → List (List Move) → List Move → Type 0
IsLeftOut c bound hs h = IsBeyond (race_of c) bound h → Contains hs h

-- so many were drawn, and of these the ones were told that are to be
pub record HasTold (c : Scene) (first : ℕ) (front : List (List Move)) (start : Explored) (o : Outcomes) (e : Explored)
    : Type 0 where
  pub leads : (more : ℕ) → drawn_histories (race_of c) STEPS_LIMIT (length front + more) first
      ≡ front ++ drawn_histories (race_of c) STEPS_LIMIT more o.state
  pub beyond : AreBeyond (race_of c) start.bound front (drawn_by o)
  pub once : AreOnce (drawn_by o)
  pub tells : AlsoTells c (drawn_by o) start e
  pub fresh : AreFresh c o.fresh

-- a history more was drawn
abbrev pub DrawsOutcome : Scene → Outcomes → Outcomes → Explored → Explored → Type 0
DrawsOutcome c o p old new =
    (first : ℕ) (front : List (List Move)) (start : Explored) → HasTold c first front start o old →
    HasTold c first (front ++ (one_drawn c o.state).0 ∷ []) start p new
