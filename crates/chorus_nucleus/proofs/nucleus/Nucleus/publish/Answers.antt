use Rattle.std.proofs.Common.{refl, sym, ◌∙◌, subst}
use Rattle.chorus_turn.specs.Passes.{known, handed}
use Rattle.chorus_nucleus.specs.Reading.{PublishDone}
use Rattle.chorus_nucleus.proofs.Asking.{home-is}
use Rattle.chorus_nucleus.proofs.Publishing.{at-home, away}
use Rattle.chorus_nucleus.proofs.nucleus.Nucleus.publish.Goals as goal

pub returns-then-place-place_at : goal.returns-then-place-place_at
returns-then-place-place_at g c =
    let n = c.args.self.now in
    let old = c.args.pass.now in
    let with = c.publish_with-reader in
    let home = home-is n.layout old.caller c.actor-actor.result c.site.result c.place_at.result c.actor-actor.ensures c.site.ensures.value c.place_at.ensures.value in
    at-home n c.args.place old with.new.turner c.requires.pass with.ensures.turner with.ensures.standing with.result.0 record { reader = with.result.0; spare = old.sight.spare } with.result.1
    (c.if-place-place_at.true ∙ home) refl refl with.ensures.reader
    with.new.caller (subst (λ o. PublishDone n.layout (handed n.turns) c.args.place o with.result.0 with.result.1 (known old.turner) (known with.new.turner) old.caller with.new.caller) c.take-own.ensures.value (with.ensures.done c.requires.pass.caller))

pub returns-else-place-place_at : goal.returns-else-place-place_at
returns-else-place-place_at g c =
    let n = c.args.self.now in
    let old = c.args.pass.now in
    let with = c.publish_with-done in
    let home = home-is n.layout old.caller c.actor-actor.result c.site.result c.place_at.result c.actor-actor.ensures c.site.ensures.value c.place_at.ensures.value in
    away n c.args.place old with.new.turner c.requires.pass with.ensures.turner with.ensures.standing with.result.0 with.result.1 (λ e. c.if-place-place_at.false (e ∙ sym home)) with.new.caller (with.ensures.done c.requires.pass.caller)
