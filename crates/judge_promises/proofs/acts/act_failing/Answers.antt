-- In each arm the act is the arm's, so the function called there says what is asked.
use Rattle.std.proofs.Common.{ℕ, List, Option, ◌∙◌, ap, refl, sym}
use Rattle.chorus_ui.specs.declared.layout.Layout.{Layout}
use Rattle.chorus_entry.specs.declared.entry.Entry.{Entry}
use Rattle.chorus_entry.specs.declared.act.Act.{Act}
use Rattle.chorus_entry.specs.declared.act.Act.TheVariants.{Choose, Delete}
use Rattle.chorus_checker.specs.Rules.{act_number}
use Rattle.judge_promises.specs.declared.breach.Breach.{Breach}
use Rattle.judge_promises.specs.Breaches.{failing}
use Rattle.judge_promises.specs.Conditions.{conditions}
use Rattle.judge_promises.specs.Terms.{read}
use Rattle.judge_promises.proofs.acts.act_failing.Goals as goal

abbrev asked : Layout → List Entry → ℕ → ℕ → Act → Option Breach
asked l past p s a = failing (act_number a) 1 (conditions l (read past) p s a)

pub returns-in-Accept : goal.returns-in-Accept
returns-in-Accept c =
    c.accept_failing.ensures ∙ ap (λ a. asked c.args.log.now.layout c.args.log.now.past c.args.place c.args.seat a) (sym c.in-Accept.is)

pub returns-in-Full : goal.returns-in-Full
returns-in-Full c =
    c.full_failing.ensures ∙ ap (λ a. asked c.args.log.now.layout c.args.log.now.past c.args.place c.args.seat a) (sym c.in-Full.is)

pub returns-in-Already : goal.returns-in-Already
returns-in-Already c =
    c.already_failing.ensures ∙ ap (λ a. asked c.args.log.now.layout c.args.log.now.past c.args.place c.args.seat a) (sym c.in-Already.is)

pub returns-in-ClientsFull : goal.returns-in-ClientsFull
returns-in-ClientsFull c =
    c.clients_full_failing.ensures ∙ ap (λ a. asked c.args.log.now.layout c.args.log.now.past c.args.place c.args.seat a) (sym c.in-ClientsFull.is)

pub returns-in-Early : goal.returns-in-Early
returns-in-Early c =
    c.early_failing.ensures ∙ ap (λ a. asked c.args.log.now.layout c.args.log.now.past c.args.place c.args.seat a) (sym c.in-Early.is)

pub returns-in-NoPort : goal.returns-in-NoPort
returns-in-NoPort c =
    c.no_port_failing.ensures ∙ ap (λ a. asked c.args.log.now.layout c.args.log.now.past c.args.place c.args.seat a) (sym c.in-NoPort.is)

pub returns-in-Elsewhere : goal.returns-in-Elsewhere
returns-in-Elsewhere c =
    c.elsewhere_failing.ensures ∙ ap (λ a. asked c.args.log.now.layout c.args.log.now.past c.args.place c.args.seat a) (sym c.in-Elsewhere.is)

pub returns-in-Gone : goal.returns-in-Gone
returns-in-Gone c =
    c.gone_failing.ensures ∙ ap (λ a. asked c.args.log.now.layout c.args.log.now.past c.args.place c.args.seat a) (sym c.in-Gone.is)

pub returns-in-NoMember : goal.returns-in-NoMember
returns-in-NoMember c =
    c.no_member_failing.ensures ∙ ap (λ a. asked c.args.log.now.layout c.args.log.now.past c.args.place c.args.seat a) (sym c.in-NoMember.is)

pub returns-in-Choose : goal.returns-in-Choose
returns-in-Choose c =
    c.choose_failing.ensures
    ∙ ap (λ a. asked c.args.log.now.layout c.args.log.now.past c.args.place c.args.seat a) (ap (Choose c.in-Choose.id c.in-Choose.group) c.uis.ensures.uis ∙ sym c.in-Choose.is)

pub returns-in-Take : goal.returns-in-Take
returns-in-Take c =
    c.take_failing.ensures ∙ ap (λ a. asked c.args.log.now.layout c.args.log.now.past c.args.place c.args.seat a) (sym c.in-Take.is)

pub returns-in-Depart : goal.returns-in-Depart
returns-in-Depart c =
    c.depart_failing.ensures c.in-Depart.actor ∙ ap (λ a. asked c.args.log.now.layout c.args.log.now.past c.args.place c.args.seat a) (sym c.in-Depart.is)

pub returns-in-Arrive : goal.returns-in-Arrive
returns-in-Arrive c =
    c.arrive_failing.ensures ∙ ap (λ a. asked c.args.log.now.layout c.args.log.now.past c.args.place c.args.seat a) (sym c.in-Arrive.is)

pub returns-in-Delete : goal.returns-in-Delete
returns-in-Delete c =
    c.delete_failing.ensures
    ∙ ap (λ a. asked c.args.log.now.layout c.args.log.now.past c.args.place c.args.seat a) (ap (Delete c.in-Delete.port) c.ids.ensures ∙ sym c.in-Delete.is)

pub returns-in-Post : goal.returns-in-Post
returns-in-Post c =
    c.post_failing.ensures c.in-Post.message c.in-Post.dest refl
    ∙ ap (λ a. asked c.args.log.now.layout c.args.log.now.past c.args.place c.args.seat a) (sym c.in-Post.is)

pub returns-in-Make : goal.returns-in-Make
returns-in-Make c =
    c.make_failing.ensures c.in-Make.actor ∙ ap (λ a. asked c.args.log.now.layout c.args.log.now.past c.args.place c.args.seat a) (sym c.in-Make.is)
