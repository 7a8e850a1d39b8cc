use Rattle.std.proofs.Common.{◌≡◌, ◌++◌, take}
use Rattle.std.specs.List.{flat_map}
use Rattle.chorus_scene.specs.Print.{all_ended, script_texts}
use Rattle.chorus_print.proofs.printing.push_scripts.Given as goal

abbrev pub invariant-loop-script : goal.invariant-loop-script
invariant-loop-script l = l.out.items ≡ l.fn.out.items ++ all_ended (flat_map script_texts (take l.script-index l.scripts))
