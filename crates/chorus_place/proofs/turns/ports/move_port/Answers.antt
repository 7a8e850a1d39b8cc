use Rattle.std.proofs.Common.{◌≡◌, true, ap, sym, ◌∙◌, subst, is_some, arith}
use Rattle.chorus_ui.specs.Layout.{home, place_at, site_of}
use Rattle.chorus_entry.specs.declared.command.Command.TheVariants as Command
use Rattle.chorus_ports.specs.Table.{find}
use Rattle.law_machine.specs.declared.reply.Reply.{Reply}
use Rattle.law_machine.specs.Own.{held_by}
use Rattle.chorus_place.specs.PlaceTables.Commands.{Performed}
use Rattle.chorus_place.specs.PlaceTables.Tables.{turn}
use Rattle.chorus_place.proofs.PlaceTurns.MovePort.{rehoming, departing}
use Rattle.chorus_place.proofs.turns.ports.move_port.Goals as goal

pub returns-then-site-site_of-clause-performed : goal.returns-then-site-site_of-clause-performed
returns-then-site-site_of-clause-performed c =
    let v = c.make_room.new.self in
    let t = turn v c.args.caller.now in
    let u = turn c.rehome.new.self c.rehome.new.caller in
    let q = c.args.port in
    let a = c.args.actor in
    let held = sym (ap (λ x. is_some (held_by x (find q v.ports.records))) c.actor.ensures) ∙ sym c.is_held_by.ensures ∙ c.if-not-is_held_by.false in
    let tells = c.is_none.ensures in
    let holds = c.if-is_none.false in
    let there : is_some c.home.result ≡ true = grind (arith, tells, holds) in
    let some = sym (ap (λ l. is_some (home l a)) c.layout-layout.ensures) ∙ sym (ap is_some c.home.ensures.value) ∙ there in
    let here = sym c.site-site.ensures.value ∙ c.if-site-site_of.true ∙ c.site_of.ensures.value ∙ (λ i. site_of (c.layout-layout.ensures i) (c.number.ensures.value i)) in
    subst (λ x. Performed (Command.Move q a) x u Reply.Rehomed) (c.make_room.ensures.turn c.args.caller.now) (rehoming q a t u held some here c.rehome.ensures.turn)

pub returns-clause-performed : goal.returns-clause-performed
returns-clause-performed c =
    let v = c.make_room.new.self in
    let t = turn v c.args.caller.now in
    let u = turn c.depart-hop.new.self c.depart-hop.new.caller in
    let q = c.args.port in
    let a = c.args.actor in
    let held = sym (ap (λ x. is_some (held_by x (find q v.ports.records))) c.actor.ensures) ∙ sym c.is_held_by.ensures ∙ c.if-not-is_held_by.false in
    let tells = c.is_none.ensures in
    let holds = c.if-is_none.false in
    let there : is_some c.home.result ≡ true = grind (arith, tells, holds) in
    let some = sym (ap (λ l. is_some (home l a)) c.layout-layout.ensures) ∙ sym (ap is_some c.home.ensures.value) ∙ there in
    let site : site_of c.layout-layout.result c.number.result ≡ site_of v.layout v.number = λ i. site_of (c.layout-layout.ensures i) (c.number.ensures.value i) in
    let place = c.place_at-to.ensures.value ∙ ap (λ n. place_at c.layout-layout.result n q) c.site-site.ensures.value ∙ ap (λ l. place_at l a.site q) c.layout-layout.ensures in
    subst (λ x. Performed (Command.Move q a) x u (Reply.Departed c.depart-hop.result)) (c.make_room.ensures.turn c.args.caller.now)
    (departing q a t u c.place_at-to.result c.depart-hop.result held some
    (λ e. c.if-site-site_of.false (c.site-site.ensures.value ∙ e ∙ sym (c.site_of.ensures.value ∙ site))) place c.depart-hop.ensures.hop c.depart-hop.ensures.turn)
