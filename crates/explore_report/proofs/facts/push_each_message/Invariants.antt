use Rattle.std.proofs.Common.{◌≡◌, ◌++◌, map, take}
use Rattle.chorus_show.specs.Phrases.{spaced, id_text}
use Rattle.explore_report.proofs.facts.push_each_message.Given as goal

-- those passed are told
abbrev pub invariant-loop-id : goal.invariant-loop-id
invariant-loop-id l = l.out.items ≡ l.initial.out.items ++ spaced (map id_text (take l.id-index l.ids))
