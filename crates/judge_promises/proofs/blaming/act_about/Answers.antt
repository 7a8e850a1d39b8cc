-- In each of these arms the act is the arm's, so the function called there says what is asked.
use Rattle.std.proofs.Common.{◌∙◌, ap, sym}
use Rattle.judge_promises.specs.Blames.{about_at, act_about}
use Rattle.judge_promises.proofs.blaming.act_about.Goals as goal

pub returns-in-Accept : goal.returns-in-Accept
returns-in-Accept c = c.accept_about.ensures ∙ ap (λ a. about_at (act_about c.args.seat a) c.args.number) (sym c.in-Accept.is)

pub returns-in-Full : goal.returns-in-Full
returns-in-Full c = c.held_about.ensures ∙ ap (λ a. about_at (act_about c.args.seat a) c.args.number) (sym c.in-Full.is)

pub returns-in-Already : goal.returns-in-Already
returns-in-Already c = c.already_about.ensures ∙ ap (λ a. about_at (act_about c.args.seat a) c.args.number) (sym c.in-Already.is)

pub returns-in-ClientsFull : goal.returns-in-ClientsFull
returns-in-ClientsFull c = c.clients_full_about.ensures ∙ ap (λ a. about_at (act_about c.args.seat a) c.args.number) (sym c.in-ClientsFull.is)
