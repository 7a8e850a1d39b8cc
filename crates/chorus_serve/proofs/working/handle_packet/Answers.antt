use Rattle.std.proofs.Common.{rules, ◌∙◌, ap, subst}
use Rattle.chorus_serve.specs.Desks.{DeskOf, in_hand, seen}
use Rattle.chorus_serve.specs.Working.{HandlesPacket, IsWornAt}
use Rattle.chorus_serve.specs.declared.served.Pump.TheVariants as pumps
use Rattle.chorus_serve.proofs.Joining.{desk-worked, compares, handled-worked, with_back, work-worn}
use Rattle.chorus_serve.proofs.working.handle_packet.Goals as goal

pub invariant_of-desk-in-Ok : goal.invariant_of-desk-in-Ok
invariant_of-desk-in-Ok g c =
    desk-worked c.desk.inside.place c.work.new.self (g.E.Ends.links c.desk.inside.ends) c.args.packet c.args.caller.now c.desk.invariant c.in-Ok.ensures.worked.state c.in-Ok.ensures.worked.waits

pub returns-in-Ok-clause-ok : goal.returns-in-Ok-clause-ok
returns-in-Ok-clause-ok g c =
    let q = c.desk.inside.place in
    let none = ap (in_hand g.E.Ends.packet) (ap (λ (d : DeskOf _ _). d.hand) c.desk.view_is ∙ c.requires) in
    let clock = compares _ c.args.caller.now.last c.args.packet.clock c.clock.result c.last.result c.max.result c.max-clock.result c.clock.ensures c.last.ensures c.max.ensures c.max-clock.ensures in
    subst
    (λ (d : DeskOf _ _). HandlesPacket (pumps.Served c.args.from) c.args.from c.args.packet (seen g.E.Ends.links g.E.Ends.packet d)
    (record { place = c.work.new.self; links = g.E.Ends.links c.desk.inside.ends; hand = in_hand g.E.Ends.packet c.desk.inside.hand; last = c.desk.inside.last; worked = c.saturating_add-desk-inside.result })
    c.args.caller.now c.work.new.caller)
    c.desk.view_is
    (handled-worked c.args.from c.args.packet q c.work.new.self (g.E.Ends.links c.desk.inside.ends) (in_hand g.E.Ends.packet c.desk.inside.hand) c.desk.inside.last c.desk.inside.worked
    c.saturating_add-desk-inside.result c.args.caller.now c.work.new.caller c.desk.invariant none (search rules) (search rules) c.in-Ok.ensures.worked (search rules))

pub returns-in-Err-clause-worn : goal.returns-in-Err-clause-worn
returns-in-Err-clause-worn g c =
    λ clock e.
    subst (λ (d : DeskOf _ _). IsWornAt clock c.args.packet (seen g.E.Ends.links g.E.Ends.packet d) c.args.caller.now) c.desk.view_is
    (work-worn c.args.packet c.in-Err.packet
    (record { place = c.desk.inside.place; links = g.E.Ends.links c.desk.inside.ends; hand = in_hand g.E.Ends.packet c.desk.inside.hand; last = c.desk.inside.last; worked = c.desk.inside.worked })
    c.args.caller.now clock ((c.work.ensures.worn c.in-Err.packet clock).0 (c.in-Err.is ∙ ap (with_back c.in-Err.packet) e)))
