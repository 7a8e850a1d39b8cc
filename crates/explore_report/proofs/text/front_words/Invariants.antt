use Rattle.std.proofs.Common.{◌≡◌, ◌++◌, take, drop}
use Rattle.explore_report.specs.Reports.{front_words}
use Rattle.explore_report.proofs.text.front_words.Given as goal

-- the words passed stand whole
abbrev pub invariant-loop-index : goal.invariant-loop-index
invariant-loop-index l = front_words l.words l.line ≡ take l.index l.line ++ front_words l.left (drop l.index l.line)
