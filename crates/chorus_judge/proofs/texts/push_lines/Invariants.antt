use Rattle.std.proofs.Common.{◌≡◌, ◌++◌, take}
use Rattle.std.specs.List.{flat_map}
use Rattle.chorus_judge.specs.Texts.{open_line}
use Rattle.chorus_judge.proofs.texts.push_lines.Given as goal

-- the lines so far
abbrev pub invariant-loop-found : goal.invariant-loop-found
invariant-loop-found l = l.out.items ≡ l.initial.out.items ++ flat_map open_line (take l.found-index l.opens)
