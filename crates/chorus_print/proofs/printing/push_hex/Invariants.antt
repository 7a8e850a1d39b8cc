use Rattle.std.proofs.Common.{◌≡◌, ◌++◌, take}
use Rattle.chorus_lines.specs.Body.{hex_text}
use Rattle.chorus_print.proofs.printing.push_hex.Given as goal

abbrev pub invariant-loop-b : goal.invariant-loop-b
invariant-loop-b l = l.out.items ≡ l.fn.out.items ++ hex_text (take l.b-index l.bytes)
