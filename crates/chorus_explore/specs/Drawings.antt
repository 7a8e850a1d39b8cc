-- How far a drawing is.
-- c is a scenario, at and more give where a claim is asked, x is what the generator has come to, ms are moves, the latest first, a
-- judgement is what was found of a claim, old and new are a drawing before and after.
use Rattle.std.specs.Prelude.{ℕ, ◌≡◌, ◌+◌, if◌then◌else◌, Bool, List, [], ◌∷◌, ◌++◌, length, Some, slice_get}
use Rattle.std.specs.Option.{option_map}
use Rattle.law_explore.specs.declared.moves.Move.{Move}
use Rattle.law_replay.specs.Shown.{race_of}
use Rattle.chorus_claims.specs.Pieces.{Claim}
use Rattle.chorus_scene.specs.Scene.{Scene}
use Rattle.chorus_scene.specs.declared.limits.TheConstants.{STEPS_LIMIT}
use Rattle.explore_report.specs.Judgements.{is_asked_at, unmet_in}
use Rattle.explore_report.specs.declared.judgements.Judgement.{Judgement}
use Rattle.chorus_explore.specs.declared.drawing.Drawing.{Drawing}
use Rattle.chorus_explore.specs.Drawn.{asked_on, drawn_from, first_unmet}
use Rattle.chorus_explore.specs.Stages.{AreFresh, facts_at}

-- of each claim what is kept is the first of these that does not meet it, with the lines where it leads
pub record AreAsked (c : Scene) (claims : List Claim) (at : Claim → List (List Move)) (judged : List Judgement) : Type 0 where
  pub many : length judged ≡ length claims
  pub each : (i : ℕ) (k : Claim) (j : Judgement) → slice_get claims i ≡ Some k → slice_get judged i ≡ Some j →
      unmet_in j ≡ option_map (λ (ms : List Move). (ms, facts_at c ms)) (first_unmet c k (at k))

abbrev pub also : (Claim → List (List Move)) → (Claim → List (List Move)) → Claim → List (List Move)
also at more k = at k ++ more k

-- where the claim is asked when a moment is come to, which is an end, or not
abbrev pub asked_here : Bool → List Move → Claim → List (List Move)
asked_here is_end ms k = if is_asked_at is_end k then ms ∷ [] else []

-- the claims were asked there too
abbrev pub Asks : Scene → List Claim → (Claim → List (List Move)) → List Judgement → List Judgement → Type 0
Asks c claims more old new =
    (at : Claim → List (List Move)) → AreAsked c claims at old → AreAsked c claims (also at more) new

abbrev pub one_drawn : Scene → ℕ → List Move × ℕ
one_drawn c x = drawn_from (race_of c) STEPS_LIMIT [] x

-- a history more was drawn, and the claims were asked on it
pub record DrawsOne (c : Scene) (claims : List Claim) (old new : Drawing) : Type 0 where
  pub state : new.state ≡ (one_drawn c old.state).1
  pub asks : Asks c claims (λ k. asked_on (race_of c) k (one_drawn c old.state).0) old.explored.judged.items new.explored.judged.items
  pub histories : new.explored.histories ≡ old.explored.histories + 1
  pub events : new.explored.events ≡ old.explored.events + length (one_drawn c old.state).0
  pub fresh : AreFresh c new.fresh
  pub cut : (new.explored.is_cut ≡ old.explored.is_cut) × (new.explored.bound ≡ old.explored.bound)
