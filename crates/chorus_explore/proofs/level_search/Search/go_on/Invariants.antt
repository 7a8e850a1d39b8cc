use Rattle.std.proofs.Common.{ℕ, suc, ◌≡◌, ◌+◌, List, take}
use Rattle.law_explore.specs.Members.{Merged, next_members}
use Rattle.law_replay.specs.Shown.{race_of}
use Rattle.chorus_explore.specs.Classes.{StandFor, moves_from}
use Rattle.chorus_explore.specs.Searches.{Come, IsReady, asks_of}
use Rattle.chorus_explore.specs.Stages.{IsReachedIf}
use Rattle.chorus_explore.proofs.level_search.Search.go_on.Given as goal

-- what goes on from the classes passed has come
abbrev pub invariant-loop-index : goal.invariant-loop-index
invariant-loop-index l = IsReady (asks_of l.asked) l.scenario l.self × IsReachedIf (asks_of l.asked) l.scenario l.last
    × ((n : ℕ) (ms : List Merged) → StandFor (asks_of l.asked) (race_of l.scenario) n l.level ms → Come l.scenario l.asked (suc n) (next_members (race_of l.scenario) (take l.index ms)) l.initial.self l.self)
    × (l.self.explored.events ≡ l.initial.self.explored.events + moves_from l.scenario (take l.index l.level)) × (l.self.explored.bound ≡ l.initial.self.explored.bound)
