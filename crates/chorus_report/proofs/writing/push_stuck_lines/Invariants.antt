use Rattle.std.proofs.Common.{◌≡◌, ◌++◌, ◌-◌, take, length}
use Rattle.std.specs.List.{flat_map}
use Rattle.chorus_show.specs.Report.{stuck_line}
use Rattle.chorus_report.proofs.writing.push_stuck_lines.Given as goal

-- the text without its end, and the lines so far
abbrev pub invariant-loop-script : goal.invariant-loop-script
invariant-loop-script l = l.text.items ≡ take (length l.fn.text.items - 4) l.fn.text.items ++ flat_map stuck_line (take l.script-index l.fn.stuck)
