use Rattle.std.proofs.Common.{◌≡◌, ◌∷◌, ◌++◌, take, map}
use Rattle.std.specs.Prelude.{codes}
use Rattle.chorus_scene.specs.Print.{all_ended, step_text}
use Rattle.chorus_print.proofs.printing.push_schedule.Given as goal

abbrev pub invariant-loop-step : goal.invariant-loop-step
invariant-loop-step l = l.out.items ≡ l.fn.out.items ++ all_ended (codes "schedule" ∷ map step_text (take l.step-index l.steps))
