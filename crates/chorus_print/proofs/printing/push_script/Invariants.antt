use Rattle.std.proofs.Common.{◌≡◌, ◌∷◌, ◌++◌, take}
use Rattle.chorus_scene.specs.Print.{all_ended, actor_text, command_texts}
use Rattle.chorus_print.proofs.printing.push_script.Given as goal

abbrev pub invariant-loop-index : goal.invariant-loop-index
invariant-loop-index l = l.out.items ≡ l.fn.out.items ++ all_ended (actor_text l.fn.script.actor ∷ command_texts l.fn.script.waits 0 (take l.index l.fn.script.commands))
