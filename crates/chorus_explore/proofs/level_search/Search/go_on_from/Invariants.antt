use Rattle.std.proofs.Common.{ℕ, suc, ◌≡◌, ◌+◌, take}
use Rattle.law_explore.specs.Members.{Merged, going_on}
use Rattle.law_replay.specs.Shown.{race_of}
use Rattle.chorus_explore.specs.Classes.{StandsFor, shown_by}
use Rattle.chorus_explore.specs.Searches.{Come, IsReady, LeadsThere, asks_of}
use Rattle.chorus_explore.proofs.level_search.Search.go_on_from.Given as goal

-- what goes on by the moves passed has come
abbrev pub invariant-loop-index : goal.invariant-loop-index
invariant-loop-index l = IsReady (asks_of l.asked) l.scenario l.self × LeadsThere (asks_of l.asked) l.scenario l.class.moves.items l.kept
    × ((n : ℕ) (m : Merged) → StandsFor (asks_of l.asked) (race_of l.scenario) n (shown_by l.class) l.class.number m
    → Come l.scenario l.asked (suc n) (going_on (take l.index l.moves.items) m.members) l.initial.self l.self)
    × (l.self.explored.events ≡ l.initial.self.explored.events + l.index) × (l.self.explored.bound ≡ l.initial.self.explored.bound)
