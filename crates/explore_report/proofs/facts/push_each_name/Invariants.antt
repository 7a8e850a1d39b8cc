use Rattle.std.proofs.Common.{◌≡◌, ◌++◌, map, take}
use Rattle.chorus_ui.specs.Text.{name_text}
use Rattle.chorus_show.specs.Phrases.{spaced}
use Rattle.explore_report.proofs.facts.push_each_name.Given as goal

-- those passed are told
abbrev pub invariant-loop-name : goal.invariant-loop-name
invariant-loop-name l = l.out.items ≡ l.initial.out.items ++ spaced (map name_text (take l.name-index l.names))
