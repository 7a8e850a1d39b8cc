use Rattle.std.proofs.Common.{◌≡◌, ◌++◌, take}
use Rattle.std.specs.List.{flat_map}
use Rattle.chorus_ui.specs.declared.ui.Ui.{Ui}
use Rattle.law_explore.specs.Outcome.{held_in}
use Rattle.explore_report.specs.Outcomes.{held_line}
use Rattle.explore_moments.specs.Moments.{states}
use Rattle.explore_moments.proofs.ports.push_all_held.Given as goal

-- those passed are told
abbrev pub invariant-loop-port : goal.invariant-loop-port
invariant-loop-port l = l.text.items ≡ l.initial.text.items ++ flat_map (λ (q : Ui). held_line (held_in q (states l.places))) (take l.port-index l.made)
