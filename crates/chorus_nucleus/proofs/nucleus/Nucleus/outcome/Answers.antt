use Rattle.std.proofs.Common.{◌∙◌, ap}
use Rattle.chorus_nucleus.proofs.Called.{place-is}
use Rattle.chorus_nucleus.proofs.Asking.{home-is, told-outcome, busy-outcome}
use Rattle.std.proofs.Common.{◌==◌, if◌then◌else◌}
use Rattle.law_machine.specs.declared.outcome.Outcome.TheVariants.{Unknown}
use Rattle.chorus_nucleus.proofs.nucleus.Nucleus.outcome.Goals as goal

pub returns-in-Ok : goal.returns-in-Ok
returns-in-Ok c =
    let n = c.args.self.now in
    let old = c.args.pass.now in
    let home = c.place_at-home.result in
    told-outcome n c.args.id old c.with.new.pass home c.requires c.with.ensures.pass c.with.ensures.standing (place-is n.layout home c.place_at-home.ensures.in_layout)
    (home-is n.layout old.caller c.actor-actor.result c.site.result home c.actor-actor.ensures c.site.ensures.value c.place_at-home.ensures.value) (c.in-Ok.outcome, c.in-Ok.clock) c.told.result c.see.new.self c.in-Ok.ensures.ok c.see.ensures
    (c.told.ensures ∙ ap (λ q. if c.args.id.seat == q then c.in-Ok.outcome else Unknown) c.seat.ensures)

pub returns-in-Err : goal.returns-in-Err
returns-in-Err c =
    let n = c.args.self.now in
    let old = c.args.pass.now in
    let home = c.place_at-home.result in
    busy-outcome n c.args.id old c.with.new.pass home c.requires c.with.ensures.pass c.with.ensures.standing (place-is n.layout home c.place_at-home.ensures.in_layout)
    (home-is n.layout old.caller c.actor-actor.result c.site.result home c.actor-actor.ensures c.site.ensures.value c.place_at-home.ensures.value) c.in-Err.busy.by c.in-Err.ensures.busy.0
