use Rattle.std.proofs.Common.{◌∙◌, sym, Ok, Err, subst}
use Rattle.law_machine.specs.declared.reply.Reply.{Reply}
use Rattle.chorus_perform.specs.Halting.{Halts, IsTried}
use Rattle.chorus_perform.proofs.Steps.{goes-call, goes-refused}
use Rattle.chorus_perform.proofs.commands.try_command.Goals as goal
use Rattle.chorus_perform.proofs.commands.try_command.Goals.{in-Ok, in-Err-Busy, in-Err-Memory, in-Err-Worn}

pub returns-clause-done : goal.returns-clause-done
returns-clause-done c = elim c.match-act.branch [
  | in-Ok w ↦ λ is. goes-call c.args.nucleus.now c.args.command.now c.args.pass.now c.act.new.pass _ w.in-Ok.ensures
  | in-Err-Busy w ↦ λ is. absurd (let bad = sym w.result-is ∙ is in cc)
  | in-Err-Memory w ↦ λ is. absurd (let bad = sym w.result-is ∙ is in cc)
  | in-Err-Worn w ↦ λ is. absurd (let bad = sym w.result-is ∙ is in cc)
]

pub returns-clause-not_done : goal.returns-clause-not_done
returns-clause-not_done c = elim c.match-act.branch [
  | in-Ok w ↦ λ no. absurd (no (w.result-is))
  | in-Err-Busy w ↦ λ no. goes-refused c.args.nucleus.now c.args.command.now c.args.pass.now c.act.new.pass _ w.in-Err-Busy.ensures
  | in-Err-Memory w ↦ λ no. goes-refused c.args.nucleus.now c.args.command.now c.args.pass.now c.act.new.pass _ w.in-Err-Memory.ensures
  | in-Err-Worn w ↦ λ no. goes-refused c.args.nucleus.now c.args.command.now c.args.pass.now c.act.new.pass _ w.in-Err-Worn.ensures
]

pub returns-clause-told : goal.returns-clause-told
returns-clause-told c = elim c.match-act.branch [
  | in-Ok w ↦ subst (IsTried c.args.nucleus.now c.args.command.now c.args.pass.now c.act.new.pass) (sym w.result-is) (Ok _, (w.in-Ok.ensures, λ h. h))
  | in-Err-Busy w ↦
      subst (IsTried c.args.nucleus.now c.args.command.now c.args.pass.now c.act.new.pass) (sym w.result-is)
      (Err _, (w.in-Err-Busy.ensures, λ h. subst (λ f. Halts {T = Reply} (Err f)) w.in-Err-Busy.field-0-is h))
  | in-Err-Memory w ↦
      subst (IsTried c.args.nucleus.now c.args.command.now c.args.pass.now c.act.new.pass) (sym w.result-is)
      (Err _, (w.in-Err-Memory.ensures, subst (λ f. Halts {T = Reply} (Err f)) (sym w.in-Err-Memory.field-0-is) tt))
  | in-Err-Worn w ↦
      subst (IsTried c.args.nucleus.now c.args.command.now c.args.pass.now c.act.new.pass) (sym w.result-is)
      (Err _, (w.in-Err-Worn.ensures, subst (λ f. Halts {T = Reply} (Err f)) (sym w.in-Err-Worn.field-0-is) tt))
]
