use Rattle.chorus_perform.proofs.Halts.{unworn-then}
use Rattle.std.proofs.Common.{◌+◌, take, ◌∙◌}
use Rattle.chorus_perform.proofs.Steps.{on-err, on-ok, goes-on, goes-whole, first-of, step-more, whole-of}
use Rattle.chorus_perform.proofs.commands.perform_commands.Goals as goal

pub returns-in_err-perform_command-clause-err : goal.returns-in_err-perform_command-clause-err
returns-in_err-perform_command-clause-err g c =
    on-err c.from_residual.result _ (first-of c.args.commands.now c.loop-step.step c.args.pass.now c.perform_command.new.pass
    (goes-on (take c.loop-step.step c.args.commands.now) c.args.pass.now c.loop-step.pass c.perform_command.new.pass c.loop-step.invariant.1 c.in_err-perform_command.ensures.err))

pub returns-in_err-pump_behind-clause-err : goal.returns-in_err-pump_behind-clause-err
returns-in_err-pump_behind-clause-err g c =
    on-err c.from_residual-in_err-pump_behind.result _ (first-of c.args.commands.now (c.loop-step.step + 1) c.args.pass.now c.pump_behind.new.pass
    (goes-on (take (c.loop-step.step + 1) c.args.commands.now) c.args.pass.now c.perform_command.new.pass c.pump_behind.new.pass
    (step-more c.args.commands.now c.loop-step.step c.index-commands-step.result c.args.pass.now c.loop-step.pass c.perform_command.new.pass c.loop-step-test.true c.index-commands-step.is c.loop-step.invariant.1 c.in_ok-perform_command.ensures.ok)
    c.pump_behind.ensures.goes))

pub loop-step-preserved : goal.loop-step-preserved
loop-step-preserved g c = (
  c.pump_behind.ensures.pass,
  goes-on (take (c.loop-step.step + 1) c.args.commands.now) c.args.pass.now c.perform_command.new.pass c.pump_behind.new.pass
      (step-more c.args.commands.now c.loop-step.step c.index-commands-step.result c.args.pass.now c.loop-step.pass c.perform_command.new.pass c.loop-step-test.true c.index-commands-step.is c.loop-step.invariant.1 c.in_ok-perform_command.ensures.ok)
      c.pump_behind.ensures.goes,
  c.in_ok-pump_behind.ensures.unworn ∙ (c.in_ok-perform_command.ensures.unworn ∙ c.loop-step.invariant.2),
)

pub returns-clause-ok : goal.returns-clause-ok
returns-clause-ok g c =
    on-ok c.pump_on.result _ (goes-whole c.args.commands.now c.loop-step.step c.args.pass.now c.loop-step.pass c.pump_on.new.pass c.loop-step-test.false c.loop-step.invariant.1 c.pump_on.ensures.goes)

pub returns-clause-err : goal.returns-clause-err
returns-clause-err g c =
    on-err c.pump_on.result _ (whole-of c.args.commands.now c.args.pass.now c.pump_on.new.pass
    (goes-whole c.args.commands.now c.loop-step.step c.args.pass.now c.loop-step.pass c.pump_on.new.pass c.loop-step-test.false c.loop-step.invariant.1 c.pump_on.ensures.goes))

pub returns-clause-unworn : goal.returns-clause-unworn
returns-clause-unworn g c = unworn-then c.args.pass.now c.loop-step.pass c.pump_on.new.pass c.pump_on.result c.loop-step.invariant.2 c.pump_on.ensures.unworn
