use Rattle.std.proofs.Common.{ap, ◌∙◌}
use Rattle.chorus_calls.specs.Callers.{raised}
use Rattle.chorus_nucleus.proofs.Called.{place-is}
use Rattle.chorus_nucleus.proofs.Asking.{home-is}
use Rattle.chorus_nucleus.proofs.Arriving.{retired}
use Rattle.chorus_nucleus.proofs.nucleus.Nucleus.retire.Goals as goal

pub returns : goal.returns
returns c =
    let n = c.args.self.now in
    let ended = c.args.pass in
    let into = c.args.into.now in
    let home = c.place_at-home.result in
    retired n ended into c.retire.new.into c.requires.pass c.requires.into c.retire.ensures.into c.retire.ensures.knows home (place-is n.layout home c.place_at-home.ensures.in_layout)
    (home-is n.layout ended.caller c.actor-actor.result c.site.result home c.actor-actor.ensures c.site.ensures.value c.place_at-home.ensures.value) c.keeper-was_keeper.result c.keeper-is_keeper.result
    c.keeper-was_keeper.ensures c.keeper-is_keeper.ensures c.inherit.new.into c.inherit.ensures.reader c.or-into.result c.or-into.ensures c.inherit.ensures.spare c.see.new.self (c.see.ensures ∙ ap (λ k. raised k into.caller) c.last.ensures) c.retire.ensures.sees
