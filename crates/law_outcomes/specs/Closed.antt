-- What a reader finds in a replay: its outcome, and all that is so, in its journal.
-- c is a scenario, ms are moves, the latest first.
use Rattle.std.specs.Prelude.{ℕ, ◌≡◌, ◌+◌, List, length, map}
use Rattle.std.specs.List.{flat_map}
use Rattle.chorus_ui.specs.Layout.{IsLayout}
use Rattle.chorus_entry.specs.declared.act.Act.{Act}
use Rattle.chorus_entry.specs.declared.entry.Entry.{Entry}
use Rattle.law_arrows.specs.Arrows.{arrows}
use Rattle.law_explore.specs.declared.moves.Move.{Move}
use Rattle.law_explore.specs.Races.{IsWhole, Told, replaying}
use Rattle.law_explore.specs.Search.{IsHistory}
use Rattle.law_moments.specs.Answers.{told_in}
use Rattle.law_moments.specs.Read.{moment_read, outcome_read}
use Rattle.law_network.specs.Left.{journals}
use Rattle.law_replay.specs.Shown.{race_of}
use Rattle.explore_report.specs.Facts.{outcome_lines}
use Rattle.chorus_scene.specs.Limits.{Keeps}
use Rattle.chorus_scene.specs.Scene.{Scene}
use Rattle.chorus_net.specs.declared.closed.Closed.{Closed}
use Rattle.chorus_net.specs.Closing.{IsLeft, closed_journals, past_of}
use Rattle.chorus_explore.specs.Stages.{comes, facts_at, position}

-- the lines of an outcome that a reader finds in the merged journal
abbrev pub outcome_of_closed : Scene → Closed → List ℕ
outcome_of_closed c closed = outcome_lines (outcome_read c.layout (race_of c).scripts (past_of closed))

-- those of all facts: in the merged journal, and in the packets that are left
abbrev pub facts_of_closed : Scene → Closed → List ℕ
facts_of_closed c closed =
    outcome_lines (moment_read c.layout (race_of c).scripts (past_of closed) closed.rest.items)

-- how many moves were made: commands of the scripts that were answered, and packets that were worked off
abbrev pub moves_read : Scene → Closed → ℕ
moves_read c closed =
    length (flat_map (λ (told : List Told). told) (told_in (length c.scripts) (past_of closed)))
    + length (arrows (past_of closed))

-- the acts of each place, the oldest first
abbrev pub acts_in : List (List Entry) → List (List Act)
acts_in journals = map (λ (journal : List Entry). map (λ (e : Entry). e.act) journal) journals

-- Whoever closes the network where a history leads, the lines that are read are those of its outcome, and of what is so
-- there, each place has the same acts, and the moves are as many.
pub record IsReadOf (c : Scene) (ms : List Move) (closed : Closed) : Type 0 where
  pub lines : outcome_of_closed c closed ≡ comes c ms
  pub facts : facts_of_closed c closed ≡ facts_at c ms
  pub acts : acts_in (closed_journals closed) ≡ acts_in (journals (position c ms).net)
  pub moves : moves_read c closed ≡ length ms

abbrev pub ClosedTellsOutcome : Type 0
ClosedTellsOutcome =
    (c : Scene) (ms : List Move) (closed : Closed) → IsLayout c.layout → Keeps c →
    IsHistory (replaying (race_of c)) ms → IsLeft (position c ms).net closed → IsReadOf c ms closed

-- What was closed is what a whole history comes to.
pub record IsOfWhole (c : Scene) (closed : Closed) : Type 0 where
  pub moves : List Move
  pub whole : IsWhole (race_of c) moves
  pub reads : IsReadOf c moves closed
