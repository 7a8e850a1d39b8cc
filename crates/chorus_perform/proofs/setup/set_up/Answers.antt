use Rattle.std.proofs.Common.{◌<◌, ◌∙◌, ap, subst, length, take}
use Rattle.chorus_entry.specs.Command.{meets_conditions}
use Rattle.chorus_report.specs.Setup.{setup_commands}
use Rattle.chorus_perform.proofs.Steps.{on-err, goes-on, first-of}
use Rattle.chorus_perform.proofs.Lines.{setup-meets, setup-more, setup-silent}
use Rattle.chorus_perform.proofs.setup.set_up.Goals as goal

pub perform_command-requires-clause-conditions : goal.perform_command-requires-clause-conditions
perform_command-requires-clause-conditions g c =
    ap meets_conditions c.setup_command-command.ensures
    ∙ setup-meets c.args.scenario.now c.requires.keeps c.loop-index.index c.index-setup-index.result c.setup.result.now c.setup.ensures
    (subst (λ xs. c.loop-index.index < length xs) c.setup-index-end.ensures c.loop-index-test.true) c.index-setup-index.is

pub perform_command-requires-clause-posts : goal.perform_command-requires-clause-posts
perform_command-requires-clause-posts g c posts = absurd (setup-silent c.index-setup-index.result c.setup_command-command.result c.setup_command-command.ensures posts)

pub returns-in_err-perform_command-clause-err : goal.returns-in_err-perform_command-clause-err
returns-in_err-perform_command-clause-err g c =
    on-err c.from_residual.result _ (first-of (setup_commands c.args.scenario.now) c.loop-index.index c.args.pass.now c.perform_command.new.pass
    (goes-on (take c.loop-index.index (setup_commands c.args.scenario.now)) c.args.pass.now c.loop-index.pass c.perform_command.new.pass c.loop-index.invariant.1 c.in_err-perform_command.ensures.err))

pub loop-index-preserved : goal.loop-index-preserved
loop-index-preserved g c = (
  c.perform_command.ensures.pass,
  setup-more c.args.scenario.now c.loop-index.index c.index-setup-index.result c.setup.result.now c.setup_command-command.result c.args.pass.now c.loop-index.pass c.perform_command.new.pass c.setup.ensures
      (subst (λ xs. c.loop-index.index < length xs) c.setup-index-end.ensures c.loop-index-test.true) c.index-setup-index.is c.setup_command-command.ensures c.loop-index.invariant.1 c.in_ok-perform_command.ensures.ok,
  c.in_ok-perform_command.ensures.unworn ∙ c.loop-index.invariant.2,
)
