-- Claims, asked of schedules that are drawn.
-- c is a scenario, r is its race, k is a claim, e what came of it, x is what the generator has come to, ms are moves, the latest
-- first, most is how many moves a history has at most, count is how many histories are drawn.
use Rattle.std.specs.Prelude.{ℕ, zero, suc, ◌≡◌, ◌<◌, ◌≤◌, ◌%◌, if◌then◌else◌, Bool, true, false, List, [], ◌∷◌, ◌++◌, length, map, take, get_or, sum_by, Option, None, Some, slice_get}
use Rattle.std.specs.List.{All, flat_map}
use Rattle.law_explore.specs.declared.moves.Move.{Move}
use Rattle.law_explore.specs.declared.moves.Move.TheVariants.{Go}
use Rattle.law_explore.specs.Positions.{next_behind}
use Rattle.law_explore.specs.Races.{Race}
use Rattle.law_replay.specs.Shown.{race_of}
use Rattle.chorus_claims.specs.Pieces.{Claim, meets}
use Rattle.chorus_draw.specs.Draws.{next_state, number_of}
use Rattle.chorus_scene.specs.Scene.{Scene}
use Rattle.chorus_scene.specs.declared.limits.TheConstants.{STEPS_LIMIT}
use Rattle.explore_report.specs.declared.explored.Explored.{Explored}
use Rattle.explore_report.specs.Judgements.{has_failed}
use Rattle.explore_report.specs.declared.judgements.Judgement.{Judgement}
use Rattle.chorus_explore.specs.Checked.{IsAsked, Verdict, Fails, Open, facts_behind, facts_in, verdicts_of}
use Rattle.chorus_explore.specs.Stages.{facts_at}

-- Which histories are drawn.

-- of the moves that may come the one of this number, counted on behind the last from the first again
abbrev pub move_by : List Move → ℕ → Move
move_by moves number = get_or moves (number % length moves) (Go 0)

abbrev pub has_ended : List Move → Bool
has_ended [] = true
has_ended (m ∷ moves) = false

-- From these moves on: the generator goes on and draws one of the moves that may come, until none may, or so many were drawn. The
-- history, and what the generator has come to.
unfoldable pub drawn_from : Race → ℕ → List Move → ℕ → List Move × ℕ
drawn_from r zero ms x = (ms, x)
drawn_from r (suc most) ms x =
    if has_ended (next_behind r ms) then (ms, x)
    else drawn_from r most (move_by (next_behind r ms) (number_of (next_state x)) ∷ ms) (next_state x)

-- so many histories, one after the other
unfoldable pub drawn_histories : Race → ℕ → ℕ → ℕ → List (List Move)
drawn_histories r most zero x = []
drawn_histories r most (suc count) x =
    (drawn_from r most [] x).0 ∷ drawn_histories r most count (drawn_from r most [] x).1

-- What is found by them.

-- the moments of a history, from the first one on
abbrev pub moments : List Move → List (List Move)
moments [] = [] ∷ []
moments (m ∷ ms) = moments ms ++ (m ∷ ms) ∷ []

-- where the claim is asked on a history: at each moment, or where nothing may come behind it at its end
abbrev pub asked_on : Race → Claim → List Move → List (List Move)
asked_on r k ms =
    if k.throughout then moments ms else if has_ended (next_behind r ms) then ms ∷ [] else []

-- the first of these that does not meet the claim
abbrev pub first_unmet : Scene → Claim → List (List Move) → Option (List Move)
first_unmet c k [] = None
first_unmet c k (ms ∷ rest) = if meets k (facts_at c ms) then first_unmet c k rest else Some ms

-- The claim fails there, or else nothing is known of it.
abbrev pub said_by : Option (List Move) → Verdict
said_by None = Open 0
said_by (Some ms) = Fails ms

abbrev pub drawn_verdict : Scene → ℕ → ℕ → Claim → Verdict
drawn_verdict c count first k =
    said_by (first_unmet c k (flat_map (asked_on (race_of c) k) (drawn_histories (race_of c) STEPS_LIMIT count first)))

-- The promise.

-- Of each claim that is said which the histories come to that are drawn from the first state on, and no other. One that fails
-- is asked where its schedule leads, and is not met there; the lines that are kept are those of where it leads. As many moves are
-- told as were carried out: those of the first so many histories, of all of them but where each claim has failed.
pub record ChecksDrawn (c : Scene) (claims : List Claim) (count first : ℕ) (e : Explored) : Type 0 where
  pub verdicts : verdicts_of e ≡ map (drawn_verdict c count first) claims
  pub failing : (i : ℕ) (k : Claim) (ms : List Move) → slice_get claims i ≡ Some k →
      slice_get (verdicts_of e) i ≡ Some (Fails ms) → IsAsked c k ms × (meets k (facts_at c ms) ≡ false)
  pub facts : map facts_in e.judged.items ≡ map (facts_behind c) (verdicts_of e)
  pub followed : e.histories ≤ count
  pub events : e.events
      ≡ sum_by length (take e.histories (drawn_histories (race_of c) STEPS_LIMIT count first))
  pub all : e.histories < count → All (λ (j : Judgement). has_failed j ≡ true) e.judged.items
