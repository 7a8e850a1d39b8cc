use Rattle.std.proofs.Common.{◌≡◌, take}
use Rattle.chorus_explore.specs.Stages.{IsReached}
use Rattle.chorus_explore.proofs.level_search.again.Given as goal

-- the stage is where the moves passed lead
abbrev pub invariant-loop-mv : goal.invariant-loop-mv
invariant-loop-mv l = IsReached l.scenario l.stage × (l.stage.moves.items ≡ take l.mv-index l.moves) × (l.stage.asks ≡ l.asks)
