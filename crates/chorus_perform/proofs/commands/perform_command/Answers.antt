use Rattle.chorus_perform.proofs.Halts.{call-unworn, call-halted}
use Rattle.std.proofs.Common.{◌≡◌, ◌≢◌, ◌∙◌, sym, true, Ok, [], ◌∷◌, arith}
use Rattle.chorus_perform.proofs.Steps.{on-err, goes-none, goes-later}
use Rattle.chorus_perform.proofs.commands.perform_command.Goals as goal

pub try_command-requires-clause-posts : goal.try_command-requires-clause-posts
try_command-requires-clause-posts g c is = let few = c.requires.posts is in let more = c.loop.invariant.1.posts in omega (arith, few, more)

pub returns-in_err-try_command-clause-err : goal.returns-in_err-try_command-clause-err
returns-in_err-try_command-clause-err g c =
    on-err c.from_residual.result _ (goes-none c.args.pass.now c.loop.pass c.try_command.new.pass c.loop.invariant.1 (c.try_command.ensures.not_done (λ e. absurd (let bad = sym c.in_err-try_command.was ∙ e in cc))))

pub returns-then-branch-clause-ok : goal.returns-then-branch-clause-ok
returns-then-branch-clause-ok g c =
    let is : c.try_command.result ≡ Ok true = (let was = c.in_ok-try_command.was in let yes = c.if-branch.true in cc) in
    goes-later (c.args.command.now ∷ []) c.args.pass.now c.loop.pass c.try_command.new.pass c.loop.invariant.1 (c.try_command.ensures.done is)

pub loop-preserved : goal.loop-preserved
loop-preserved g c =
    let not : c.try_command.result ≢ Ok true = λ e. absurd (let bad = sym c.in_ok-try_command.was ∙ e in let is = c.if-branch.false in cc) in (
      c.try_command.ensures.pass,
      goes-none c.args.pass.now c.loop.pass c.try_command.new.pass c.loop.invariant.1 (c.try_command.ensures.not_done not),
      c.give_way-tries.ensures,
      call-unworn c.args.nucleus.now c.loop.pass c.try_command.new.pass c.args.command.now c.in_ok-try_command.ensures.told.0 c.in_ok-try_command.ensures.told.1.0 c.in_ok-try_command.ensures.told.1.1 ∙ c.loop.invariant.3,
    )

pub returns-then-branch-clause-unworn : goal.returns-then-branch-clause-unworn
returns-then-branch-clause-unworn g c = call-unworn c.args.nucleus.now c.loop.pass c.try_command.new.pass c.args.command.now c.in_ok-try_command.ensures.told.0 c.in_ok-try_command.ensures.told.1.0 c.in_ok-try_command.ensures.told.1.1 ∙ c.loop.invariant.3

pub returns-in_err-try_command-clause-halted : goal.returns-in_err-try_command-clause-halted
returns-in_err-try_command-clause-halted g c = on-err c.from_residual.result _ (call-halted c.args.nucleus.now c.loop.pass c.try_command.new.pass c.args.command.now c.in_err-try_command.ensures.told.0 c.in_err-try_command.ensures.told.1.0 c.in_err-try_command.ensures.told.1.1)
