use Rattle.std.proofs.Common.{◌<◌, ◌≤◌, ◌∙◌, List, length, sym, subst, arith}
use Rattle.chorus_entry.specs.declared.command.Command.{Command}
use Rattle.chorus_run.proofs.standing.ask.Goals as goal

pub is_stuck-requires-clause-left : goal.is_stuck-requires-clause-left
is_stuck-requires-clause-left c = subst (λ (cs : List Command). c.in_ok-done.done < length cs) c.commands.ensures c.if-done-commands.false

pub returns-then-done-commands : goal.returns-then-done-commands
returns-then-done-commands c = record {
  did = c.in_ok-done.ensures;
  stuck = λ less. absurd (let all : length c.args.script.now.commands ≤ c.in_ok-done.done = subst (λ (cs : List Command). length cs ≤ c.in_ok-done.done) c.commands.ensures c.if-done-commands.true in omega (arith, less, all));
}

pub returns : goal.returns
returns c = record { did = c.in_ok-done.ensures; stuck = λ less. sym c.is_stuck.ensures ∙ c.if-not-is_stuck.false }
