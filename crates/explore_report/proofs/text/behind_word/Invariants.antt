use Rattle.std.proofs.Common.{◌≡◌, drop}
use Rattle.explore_report.specs.Reports.{behind_word}
use Rattle.explore_report.proofs.text.behind_word.Given as goal

-- no word was passed
abbrev pub invariant-loop-index : goal.invariant-loop-index
invariant-loop-index l = behind_word (drop l.index l.line) ≡ behind_word l.line
