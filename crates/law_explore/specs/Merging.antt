-- Positions behind which the same may come, where what commands were answered may be told in any form, as a text.
-- r is a race, s and t are positions, told and other are what answered, ms, os and more are moves, the latest first, ss
-- and rs are places, n and m are networks.
use Rattle.std.specs.Prelude.{ℕ, ◌≡◌, Bool, true, List, ◌++◌, length, Option}
use Rattle.chorus_entry.specs.declared.id.MsgId.{MsgId}
use Rattle.law_machine.specs.PlaceState.{PlaceState}
use Rattle.law_network.specs.Network.{NetState}
use Rattle.law_explore.specs.Alike.{NetsAlike, PlacesAlike}
use Rattle.law_explore.specs.Search.{IsHistory, state_after}
use Rattle.law_explore.specs.declared.moves.Move.{Move}
use Rattle.law_explore.specs.Races.{Race, Order, Position, Told, answers_after, replaying, IsRace}
use Rattle.law_explore.specs.Outcome.{outcome_with}
use Rattle.law_explore.specs.Moment.{moment_with}
use Rattle.law_explore.specs.Positions.{AskAlike, next_behind}
use Rattle.law_explore.specs.Laws.{IsEquivalence}

-- whether claims are asked, and what is told of what answered, script by script: a text, and ids
pub record Telling : Type 0 where
  pub asks : Bool
  pub texts : List (List Told) → List (List ℕ × List MsgId)

module _ (tells : Telling) where
  -- where the same is told, it is told again with one answer more
  abbrev pub TellsOn : Type 0
  TellsOn =
      (m : Move) (a : Option Told) (told other : List (List Told)) → tells.texts other ≡ tells.texts told →
      tells.texts (answers_after m a other) ≡ tells.texts (answers_after m a told)

  -- The networks are alike, the same is left of each script, and the same is told of what was done of it.
  pub record AreToldAlike (count : ℕ) (s t : Position) : Type 0 where
    pub nets : NetsAlike (AskAlike tells.asks) count s.net t.net
    pub left : t.left ≡ s.left
    pub told : tells.texts t.told ≡ tells.texts s.told

  -- two histories of a race that come to such
  abbrev pub ComeToldAlike : Race → List Move → List Move → Type 0
  ComeToldAlike r ms os =
      AreToldAlike (length r.scripts) (state_after (replaying r) ms) (state_after (replaying r) os)

  -- what comes behind the one may come behind the other, both come to such again, and behind both the same may come
  pub record GoOnToldAlike (r : Race) (ms os more : List Move) : Type 0 where
    pub may : IsHistory (replaying r) (more ++ os)
    pub alike : ComeToldAlike r (more ++ ms) (more ++ os)
    pub next : next_behind r (more ++ os) ≡ next_behind r (more ++ ms)

abbrev pub ToldAlikeGoOn : Type 0
ToldAlikeGoOn =
    (tells : Telling) (r : Race) (ms os more : List Move) → TellsOn tells → IsRace r → IsHistory (replaying r) ms →
    IsHistory (replaying r) os → ComeToldAlike tells r ms os → IsHistory (replaying r) (more ++ ms) →
    GoOnToldAlike tells r ms os more

abbrev pub ToldAlikeIsAnEquivalence : Type 0
ToldAlikeIsAnEquivalence = (tells : Telling) (count : ℕ) → IsEquivalence (AreToldAlike tells count)

-- places that are alike tell the same outcome, whatever answered
abbrev pub PlacesTellTheSame : Type 0
PlacesTellTheSame =
    (asks : Bool) (scripts left : List (List Order)) (told : List (List Told)) (ss rs : List PlaceState) →
    PlacesAlike (AskAlike asks) ss rs → outcome_with scripts left told ss ≡ outcome_with scripts left told rs

-- and where claims are asked networks that are alike tell the same of a moment
abbrev pub NetsTellTheSame : Type 0
NetsTellTheSame =
    (scripts left : List (List Order)) (told : List (List Told)) (n m : NetState) →
    NetsAlike (AskAlike true) (length scripts) n m → moment_with scripts left told n ≡ moment_with scripts left told m
