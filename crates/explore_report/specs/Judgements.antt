-- Claims, judged by histories.
-- comes tells what a history comes to, k is a claim, j what was found of it, hs and ks are histories, h is one of ks, ms are
-- moves, the latest first, a text is what a history comes to, told a number as it is told; moments are the histories that
-- were come to, and ends those of them behind which nothing may come.
use Rattle.std.specs.Prelude.{ℕ, ◌≡◌, ◌≤◌, Bool, true, false, ◌||◌, if◌then◌else◌, List, ◌++◌, length, reverse, Option, Some, None, slice_get, Contains}
use Rattle.std.specs.List.{All}
use Rattle.law_explore.specs.declared.moves.Move.{Move}
use Rattle.chorus_claims.specs.Pieces.{Claim, meets}
use Rattle.explore_report.specs.declared.judgements.Judgement.{Judgement}
use Rattle.explore_report.specs.declared.judgements.Judgement.TheVariants.{Met, Failed}
use Rattle.explore_report.specs.Findings.{AreLater, ComeTo}

abbrev pub has_failed : Judgement → Bool
has_failed Met = false
has_failed (Failed moves text) = true

-- the moves are one of the histories, and what they come to is the text; it does not meet the claim, and none of the
-- histories that does not meet it is shorter
pub record FailsFirst (comes : List Move → List ℕ) (hs : List (List Move)) (k : Claim) (ms : List Move)
    (text : List ℕ) : Type 0 where
  pub among : Contains hs ms
  pub leads : comes ms ≡ text
  pub unmet : meets k text ≡ false
  pub first : All (λ (h : List Move). meets k (comes h) ≡ false → length ms ≤ length h) hs

-- all of the histories meet the claim, or the one that is kept fails first
abbrev pub IsJudged : (List Move → List ℕ) → List (List Move) → Claim → Judgement → Type 0
IsJudged comes hs k Met = All (λ (h : List Move). meets k (comes h) ≡ true) hs
IsJudged comes hs k (Failed moves text) = FailsFirst comes hs k (reverse moves.items) text.items

-- those of which a claim is asked: each moment, or the ends alone
abbrev pub asked_of : Claim → List (List Move) → List (List Move) → List (List Move)
asked_of k moments ends = if k.throughout then moments else ends

-- so it is of each claim
pub record AreJudged (comes : List Move → List ℕ) (moments ends : List (List Move)) (claims : List Claim)
    (judged : List Judgement) : Type 0 where
  pub many : length judged ≡ length claims
  pub each : (i : ℕ) (k : Claim) (j : Judgement) → slice_get claims i ≡ Some k → slice_get judged i ≡ Some j →
      IsJudged comes (asked_of k moments ends) k j

-- these histories, which come to the text and are no shorter than those before, are judged too
abbrev pub Judges : Claim → List ℕ → List Move → Judgement → Judgement → Type 0
Judges k text h old new =
    (comes : List Move → List ℕ) (hs ks : List (List Move)) (told : ℕ) → ComeTo comes text h told ks → AreLater hs ks →
    IsJudged comes hs k old → IsJudged comes (hs ++ ks) k new

-- The same at a moment: they are ends, or not, and then only a claim that is asked at each moment is judged.

abbrev pub with_ends : Bool → List (List Move) → List (List Move) → List (List Move)
with_ends is_end ends ks = if is_end then ends ++ ks else ends

abbrev pub JudgesAt : Bool → Claim → List ℕ → List Move → Judgement → Judgement → Type 0
JudgesAt is_end k text h old new =
    (comes : List Move → List ℕ) (moments ends ks : List (List Move)) (told : ℕ) → ComeTo comes text h told ks →
    AreLater moments ks → AreLater ends ks → IsJudged comes (asked_of k moments ends) k old →
    IsJudged comes (asked_of k (moments ++ ks) (with_ends is_end ends ks)) k new

abbrev pub JudgesAll : Bool → List Claim → List ℕ → List Move → List Judgement → List Judgement → Type 0
JudgesAll is_end claims text h old new =
    (comes : List Move → List ℕ) (moments ends ks : List (List Move)) (told : ℕ) → ComeTo comes text h told ks →
    AreLater moments ks → AreLater ends ks → AreJudged comes moments ends claims old →
    AreJudged comes (moments ++ ks) (with_ends is_end ends ks) claims new

-- Whatever lengths the histories have, and in whatever order they come: what is kept of a claim is the first that does not meet
-- it, with the text that it comes to.

abbrev pub unmet_in : Judgement → Option (List Move × List ℕ)
unmet_in Met = None
unmet_in (Failed moves text) = Some (reverse moves.items, text.items)

abbrev pub unmet_with : Claim → List ℕ → List Move → Option (List Move × List ℕ) → Option (List Move × List ℕ)
unmet_with k text h None = if meets k text then None else Some (h, text)
unmet_with k text h (Some first) = Some first

-- the claim is asked at a moment, which is an end, or not
abbrev pub is_asked_at : Bool → Claim → Bool
is_asked_at is_end k = is_end || k.throughout

abbrev pub unmet_at : Bool → Claim → List ℕ → List Move → Option (List Move × List ℕ) → Option (List Move × List ℕ)
unmet_at is_end k text h kept = if is_asked_at is_end k then unmet_with k text h kept else kept

-- so it is of each claim
pub record KeepFirst (is_end : Bool) (claims : List Claim) (text : List ℕ) (h : List Move)
    (old new : List Judgement) : Type 0 where
  pub many : length new ≡ length old
  pub each : (i : ℕ) (k : Claim) (j l : Judgement) → slice_get claims i ≡ Some k → slice_get old i ≡ Some j →
      slice_get new i ≡ Some l → unmet_in l ≡ unmet_at is_end k text h (unmet_in j)
