use Rattle.std.proofs.Common.{◌≡◌, ◌++◌, map, take}
use Rattle.chorus_show.specs.Phrases.{spaced, id_text}
use Rattle.explore_report.specs.Facts.{waiting_in}
use Rattle.explore_report.proofs.facts.push_waiting.Given as goal

-- those passed are told
abbrev pub invariant-loop-index : goal.invariant-loop-index
invariant-loop-index l = l.out.items ≡ l.initial.out.items ++ spaced (map id_text (waiting_in (take l.index l.port.pending)))
