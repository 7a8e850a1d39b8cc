use Rattle.std.proofs.Common.{[]}
use Rattle.law_replay.specs.Shown.{race_of}
use Rattle.chorus_explore.specs.Searches.{IsReady, IsWithin, asks_of}
use Rattle.chorus_explore.proofs.Carrying.{HasCarried}
use Rattle.chorus_explore.proofs.level_search.go_over.Given as goal

-- all of the level is come to
abbrev pub invariant-loop-length : goal.invariant-loop-length
invariant-loop-length l = IsReady (asks_of l.asked) l.scenario l.search × IsWithin l.scenario l.asked l.length [] l.search × HasCarried (asks_of l.asked) (race_of l.scenario) l.length l.search.explored
