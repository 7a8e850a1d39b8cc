use Rattle.std.proofs.Common.{◌≡◌, drop}
use Rattle.chorus_lines.specs.Text.{each_byte}
use Rattle.chorus_lines.specs.Body.{is_hex}
use Rattle.chorus_lines.proofs.body.are_hex.Given as goal

abbrev pub invariant-loop-c : goal.invariant-loop-c
invariant-loop-c l = each_byte is_hex (drop l.c-index l.text) ≡ each_byte is_hex l.text
