use Rattle.std.proofs.Common.{◌≡◌, Ok, sym, ◌∙◌, ap, subst}
use Rattle.chorus_ui.specs.declared.ui.Ui.{Ui}
use Rattle.chorus_ports.specs.declared.ports.Ports.{Ports}
use Rattle.chorus_ports.specs.Table.{find}
use Rattle.chorus_ports.specs.Taking.{taken}
use Rattle.law_awaits.specs.Awaits.{is_taken}
use Rattle.law_machine.specs.Own.{take_act}
use Rattle.chorus_place.specs.Calls.{Place}
use Rattle.chorus_serve.specs.Desks.{seen}
use Rattle.chorus_nucleus.specs.SiteTurns.Drafts.{meant}
use Rattle.chorus_nucleus.specs.SiteTurns.Readiness.{TookOrLooked}
use Rattle.chorus_nucleus.proofs.SiteTurns.Readied.{took-ready}
use Rattle.chorus_nucleus.proofs.site_turns.ready_turn.TakesReadyJobSite.run.Goals as goal

pub returns-clause-done : goal.returns-clause-done
returns-clause-done g c =
    let q = c.args.self.now.port in
    let k = meant c.args.self.now.acts.draft in
    let w = c.args.self.now.acts.caller in
    let d = seen g.E.Ends.links g.E.Ends.packet c.args.state.now.desk in
    let same : is_taken (take_act q (taken c.actor-actor.result (find q c.ports.result.now.records))) ≡ is_taken (take_act q (taken w.actor (find q d.place.ports))) =
    ap (λ (a : Ui). is_taken (take_act q (taken a (find q c.ports.result.now.records)))) c.actor-actor.ensures
    ∙ ap (λ rs. is_taken (take_act q (taken w.actor (find q rs)))) (ap (λ (z : Ports). z.records) c.ports.ensures ∙ ap (λ (z : Place). z.ports) (c.tables.ensures ∙ c.place-place.ensures)) in
    subst (λ o. TookOrLooked k c.run.new.self.took (Ok o) w c.run.new.self.caller d) (sym c.message_in.ensures)
    (took-ready k q c.run.new.self.took c.in_ok-reply.reply w c.run.new.self.caller d c.requires.accepts.0 (sym same ∙ sym c.if-not-gives.ensures) c.in_ok-reply.ensures.done)
