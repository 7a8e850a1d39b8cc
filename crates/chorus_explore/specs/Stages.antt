-- How far the sites and the scripts are behind moves.
-- c is a scenario, ms are moves, the latest first, k is the number of a script, told is what answered, the latest first,
-- asks says whether claims are asked.
use Rattle.std.specs.Prelude.{ℕ, ◌≡◌, ◌≤◌, ◌+◌, ◌⊎◌, Bool, true, false, List, [], ◌∷◌, length, drop, reverse, Option, Some, IfSome, slice_get}
use Rattle.std.specs.List.{All, flat_map, filter, filter_map}
use Rattle.std.specs.Option.{option_map}
use Rattle.chorus_ui.specs.declared.limits.TheConstants.{CLOCK_LIMIT}
use Rattle.chorus_entry.specs.declared.command.Command.{Command}
use Rattle.chorus_entry.specs.declared.entry.Entry.{Entry}
use Rattle.chorus_entry.specs.Places.{place_for}
use Rattle.law_network.specs.Calls.{just_started}
use Rattle.law_network.specs.Network.{NetState, Event}
use Rattle.law_explore.specs.declared.moves.Move.{Move}
use Rattle.law_explore.specs.Search.{IsHistory, state_after}
use Rattle.law_explore.specs.Races.{Order, Position, Told, event_of, seat_0, next_of, may_come, may_script, replaying}
use Rattle.law_explore.specs.Outcome.{Fact, Next, Stuck, posted, outcome_after, left_fact}
use Rattle.law_explore.specs.Moment.{moment_after}
use Rattle.law_replay.specs.Shown.{orders_of, race_of}
use Rattle.chorus_scene.specs.Scene.{Scene, Script}
use Rattle.chorus_net.specs.Sites.{SitesState, net}
use Rattle.chorus_net.specs.Worn.{compared_by}
use Rattle.chorus_replay.specs.Performing.{IsWornAt}
use Rattle.chorus_explore.specs.declared.race_sites.Progress.{Progress}
use Rattle.chorus_explore.specs.declared.race_sites.Stage.{Stage}
use Rattle.explore_report.specs.Facts.{fact_line, outcome_lines}
use Rattle.chorus_explore.specs.Tellings.{answers_by}
use Rattle.explore_report.specs.Outcomes.{message_lines}
use Rattle.explore_moments.specs.Moments.{post_lines}
use Rattle.law_machine.specs.PlaceState.{PlaceState}

-- where the moves lead
abbrev pub position : Scene → List Move → Position
position c ms = state_after (replaying (race_of c)) ms

-- the move may come behind these
abbrev pub may_go : Scene → Move → List Move → Bool
may_go c m ms = may_come (race_of c).net.layout m (position c ms)

-- the lines of what a history comes to
abbrev pub comes : Scene → List Move → List ℕ
comes c ms = outcome_lines (outcome_after (race_of c) ms)

-- the lines of what is so where the moves lead, as claims speak of it
abbrev pub facts_at : Scene → List Move → List ℕ
facts_at c ms = outcome_lines (moment_after (race_of c) ms)

-- a script of which so many commands were performed
pub record IsProgress (asks : Bool) (k : ℕ) (all left : List Order) (told : List Told) (p : Progress) : Type 0 where
  pub rest : left ≡ drop p.next all
  pub few : p.next ≤ length all
  pub count : length told ≡ p.next
  pub answers : p.answers.items ≡ flat_map fact_line (answers_by asks k 1 (reverse told))
  pub posts : p.posts.items ≡ filter_map posted (reverse told)

-- those of all scripts, from script k on
abbrev pub AreProgress : Bool → ℕ → List Script → List (List Order) → List (List Told) → List Progress → Type 0
AreProgress asks k [] [] [] [] = Unit {0}
AreProgress asks k (s ∷ ss) (left ∷ lefts) (told ∷ tolds) (p ∷ ps) =
    IsProgress asks k (orders_of s) left told p × AreProgress asks (k + 1) ss lefts tolds ps
AreProgress _ _ _ _ _ _ = ⊥

-- the sites and the scripts are where the moves lead
pub record AreAt (c : Scene) (ms : List Move) (s : Stage) : Type 0 where
  pub net : net s.sites ≡ (position c ms).net
  pub scripts : AreProgress s.asks 1 c.scripts (position c ms).left (position c ms).told s.scripts.items

-- and the stage has these moves, which are a history
abbrev pub moves_of : Stage → List Move
moves_of s = reverse s.moves.items

pub record IsReached (c : Scene) (s : Stage) : Type 0 where
  pub at : AreAt c (moves_of s) s
  pub history : IsHistory (replaying (race_of c)) (moves_of s)

-- of these moves those that may come behind the history
abbrev pub coming : Scene → List Move → List Move → List Move
coming c ms moves = filter (λ (m : Move). may_go c m ms) moves

-- sites on which nothing happened, if there are some
abbrev pub AreFresh : Scene → Option SitesState → Type 0
AreFresh c sites = IfSome sites (λ s. net s ≡ just_started c.layout)

-- sites on which nothing happened
abbrev pub AreSpare : Scene → List SitesState → Type 0
AreSpare c spare = All (λ (s : SitesState). net s ≡ just_started c.layout) spare

-- the stage, if there is one, is where its moves lead, and of a search that asks claims, or not
abbrev pub IsReachedIf : Bool → Scene → Option Stage → Type 0
IsReachedIf asks c kept = IfSome kept (λ s. IsReached c s × (s.asks ≡ asks))

-- a clock is worn on the way of a replay of the text, or behind a history, by a move that may come there
pub record WearsBehind (c : Scene) (clock : ℕ) : Type 0 where
  pub moves : List Move
  pub mv : Move
  pub event : Event
  pub history : IsHistory (replaying (race_of c)) (mv ∷ moves)
  pub is : event_of (race_of c).net.layout seat_0 mv (position c moves).left ≡ Some event
  pub compared : compared_by event (position c moves).net ≡ Some clock
  pub worn : CLOCK_LIMIT ≤ clock

abbrev pub MayWear : Scene → ℕ → Type 0
MayWear c clock = ((n : NetState) × IsWornAt c clock n) ⊎ WearsBehind c clock

-- the lines of the messages that a script posted
abbrev pub posted_lines : List (List Entry) → Progress → List ℕ
posted_lines js p = flat_map (message_lines js) p.posts.items

-- this is the next command of script i, counted from 0, behind the moves
abbrev pub next_command : Scene → List Move → ℕ → Option Command
next_command c ms i = option_map (λ (o : Order). o.command) (next_of (slice_get (position c ms).left i))

abbrev pub IsNext : Scene → List Move → ℕ → Command → Type 0
IsNext c ms i d = next_command c ms i ≡ Some d

-- and whether it may come
abbrev pub goes_on : Scene → List Move → ℕ → Bool
goes_on c ms i = may_script i (position c ms)

-- a command of the script
pub record IsOfScript (c : Scene) (i : ℕ) (d : Command) : Type 0 where
  pub script : Script
  pub number : ℕ
  pub is_script : slice_get c.scripts i ≡ Some script
  pub is_command : slice_get script.commands number ≡ Some d

-- it is performed at this place
abbrev pub IsPlaceFor : Scene → ℕ → Command → ℕ → Type 0
IsPlaceFor c i d place =
    (script : Script) → slice_get c.scripts i ≡ Some script → place ≡ place_for c.layout script.actor d

-- the same, as claims speak of them
abbrev pub asked_lines : List PlaceState → Progress → List ℕ
asked_lines ps p = flat_map (post_lines ps) p.posts.items

-- the line of the next command of script i, counted from 0, where one is left behind the moves: at an end it is stuck
-- there
abbrev pub fact_by : Bool → ℕ → ℕ → Fact
fact_by true = Stuck
fact_by false = Next

abbrev pub left_by : Bool → ℕ → Option (List Order) → Option (List Order) → List Fact
left_by ended k (Some all) (Some left) = left_fact (fact_by ended) k all left
left_by ended k _ _ = []

abbrev pub left_line : Bool → Scene → List Move → ℕ → List ℕ
left_line ended c ms i =
    outcome_lines (left_by ended (i + 1) (slice_get (race_of c).scripts i) (slice_get (position c ms).left i))
