use Rattle.std.proofs.Common.{◌≡◌, ◌++◌, map, take}
use Rattle.std.specs.List.{flat_map}
use Rattle.chorus_ui.specs.declared.ui.Ui.{Ui}
use Rattle.chorus_entry.specs.declared.id.MsgId.{MsgId}
use Rattle.law_explore.specs.Moment.{copy_facts}
use Rattle.explore_report.specs.Facts.{outcome_lines}
use Rattle.explore_moments.specs.Moments.{sent_as, states}
use Rattle.explore_moments.proofs.messages.push_all_copies.Given as goal

-- the copies passed are told
abbrev pub invariant-loop-copy : goal.invariant-loop-copy
invariant-loop-copy l =
    l.text.items ≡ l.initial.text.items ++ flat_map (λ (c : MsgId × Ui). outcome_lines (copy_facts (states l.places) c)) (map sent_as (take l.copy-index l.copies))
