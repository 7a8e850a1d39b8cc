use Rattle.std.proofs.Common.{◌≡◌, ◌++◌, drop, length, take}
use Rattle.chorus_scene.specs.Print.{all_ended, said_texts}
use Rattle.chorus_print.proofs.printing.push_setup.Given as goal

abbrev pub invariant-loop-at : goal.invariant-loop-at
invariant-loop-at l = record {
  written : l.out.items ++ all_ended (said_texts (drop l.at l.names) (drop l.at l.lines)) ≡ l.fn.out.items ++ all_ended (said_texts l.names l.lines);
  kept : take (length l.fn.out.items) l.out.items ≡ l.fn.out.items;
}
