use Rattle.std.proofs.Common.{◌≡◌, ◌+◌, ◌<◌, ◌≤◌, take, ◌∙◌, List, length, slice_index_or, Ok, true, sym, ap, subst}
use Rattle.chorus_entry.specs.declared.command.Command.{Command}
use Rattle.chorus_perform.proofs.Steps.{goes-on, goes-whole, first-of, step-more, whole-of}
use Rattle.chorus_perform.proofs.waiting.perform_waiting.Goals as goal

pub returns-in_err-take_step-clause-first : goal.returns-in_err-take_step-clause-first
returns-in_err-take_step-clause-first g c =
    let commands = c.args.script.now.commands in
    first-of commands c.loop-step.step c.args.pass.now c.take_step.new.pass
    (goes-on (take c.loop-step.step commands) c.args.pass.now c.loop-step.pass c.take_step.new.pass c.loop-step.invariant.1 (c.take_step.ensures.not_done (λ e. absurd (let bad = sym c.in_err-take_step.was ∙ e in cc))))

pub returns-then-not-branch-clause-first : goal.returns-then-not-branch-clause-first
returns-then-not-branch-clause-first g c =
    let commands = c.args.script.now.commands in
    first-of commands c.loop-step.step c.args.pass.now c.take_step.new.pass
    (goes-on (take c.loop-step.step commands) c.args.pass.now c.loop-step.pass c.take_step.new.pass c.loop-step.invariant.1 (c.take_step.ensures.not_done (λ e. absurd (let bad = sym c.in_ok-take_step.was ∙ e in let is = c.if-not-branch.true in cc))))

pub returns-in_err-pump_and_tell-clause-first : goal.returns-in_err-pump_and_tell-clause-first
returns-in_err-pump_and_tell-clause-first g c =
    let commands = c.args.script.now.commands in
    let i = c.loop-step.step in
    let x = c.index-commands-step.result in
    let lt : i < length commands = subst (λ (xs : List Command). i < length xs) c.commands-commands.ensures c.loop-step-test.true in
    let here : x ≡ slice_index_or commands i x = c.index-commands-step.is ∙ ap (λ (xs : List Command). slice_index_or xs i x) c.commands-commands.ensures in
    let done : c.take_step.result ≡ Ok true = (let was = c.in_ok-take_step.was in let is = c.if-not-branch.false in cc) in
    let more = step-more commands i x c.args.pass.now c.loop-step.pass c.take_step.new.pass lt here c.loop-step.invariant.1 (c.take_step.ensures.done done) in
    first-of commands (i + 1) c.args.pass.now c.pump_and_tell.new.pass (goes-on (take (i + 1) commands) c.args.pass.now c.take_step.new.pass c.pump_and_tell.new.pass more c.pump_and_tell.ensures.goes)

pub loop-step-preserved : goal.loop-step-preserved
loop-step-preserved g c =
    let commands = c.args.script.now.commands in
    let i = c.loop-step.step in
    let x = c.index-commands-step.result in
    let lt : i < length commands = subst (λ (xs : List Command). i < length xs) c.commands-commands.ensures c.loop-step-test.true in
    let here : x ≡ slice_index_or commands i x = c.index-commands-step.is ∙ ap (λ (xs : List Command). slice_index_or xs i x) c.commands-commands.ensures in
    let done : c.take_step.result ≡ Ok true = (let was = c.in_ok-take_step.was in let is = c.if-not-branch.false in cc) in
    let more = step-more commands i x c.args.pass.now c.loop-step.pass c.take_step.new.pass lt here c.loop-step.invariant.1 (c.take_step.ensures.done done) in (
      c.pump_and_tell.ensures.pass,
      goes-on (take (i + 1) commands) c.args.pass.now c.take_step.new.pass c.pump_and_tell.new.pass more c.pump_and_tell.ensures.goes,
      c.in_ok-pump_and_tell.ensures.unworn ∙ (c.in_ok-take_step.ensures.unworn ∙ c.loop-step.invariant.2),
    )

pub returns-in_err-stay_on-clause-first : goal.returns-in_err-stay_on-clause-first
returns-in_err-stay_on-clause-first g c =
    let commands = c.args.script.now.commands in
    let most : length commands ≤ c.loop-step.step = subst (λ (xs : List Command). length xs ≤ c.loop-step.step) c.commands-commands.ensures c.loop-step-test.false in
    whole-of commands c.args.pass.now c.stay_on.new.pass (goes-whole commands c.loop-step.step c.args.pass.now c.loop-step.pass c.stay_on.new.pass most c.loop-step.invariant.1 c.stay_on.ensures.goes)

pub returns-clause-whole : goal.returns-clause-whole
returns-clause-whole g c = λ is.
    let commands = c.args.script.now.commands in
    let most : length commands ≤ c.loop-step.step = subst (λ (xs : List Command). length xs ≤ c.loop-step.step) c.commands-commands.ensures c.loop-step-test.false in
    goes-whole commands c.loop-step.step c.args.pass.now c.loop-step.pass c.stay_on.new.pass most c.loop-step.invariant.1 c.stay_on.ensures.goes

pub returns-clause-first : goal.returns-clause-first
returns-clause-first g c =
    let commands = c.args.script.now.commands in
    let most : length commands ≤ c.loop-step.step = subst (λ (xs : List Command). length xs ≤ c.loop-step.step) c.commands-commands.ensures c.loop-step-test.false in
    whole-of commands c.args.pass.now c.stay_on.new.pass (goes-whole commands c.loop-step.step c.args.pass.now c.loop-step.pass c.stay_on.new.pass most c.loop-step.invariant.1 c.stay_on.ensures.goes)
