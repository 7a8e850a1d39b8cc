use Rattle.std.proofs.Common.{◌≡◌, ◌<◌, length, Err, sym, ◌∙◌, ap, subst, arith}
use Rattle.std.proofs.lemmas.Bool.{false≢true}
use Rattle.chorus_ui.specs.Layout.{has_actor}
use Rattle.chorus_turn.specs.Knowing.{limit}
use Rattle.chorus_calls.specs.Callers.{Seated}
use Rattle.chorus_nucleus.specs.Passes.{caller_of, known}
use Rattle.chorus_perform.specs.Runners.{AreEntered}
use Rattle.chorus_perform.proofs.Comings.{found-at, script-actor, begins-at, entered-also, entered-more, new-ready}
use Rattle.chorus_perform.proofs.coming.enter.Goals as goal

pub loop-index-preserved : goal.loop-index-preserved
loop-index-preserved c =
    let lt : c.loop-index.index < length c.args.scenario.now.scripts = subst (λ xs. c.loop-index.index < length xs) c.scripts-index-end.ensures c.loop-index-test.true in
    let at = found-at c.scripts.result.now c.args.scenario.now.scripts c.loop-index.index c.index-scripts-index.result c.scripts.ensures lt c.index-scripts-index.is in
    let new = new-ready (record {}) c.args.nucleus.now c.args.scenario.now c.loop-index.index c.index-scripts-index.result c.actor.result c.loop-index.pass c.enter.new.pass c.in-Ok.entered at lt c.in-Ok.ensures.ok
    c.loop-index.invariant.1.keeper.made c.actor.ensures in
    let begun = (caller_of c.args.pass.now).last in
    let last = begins-at c.args.nucleus.now c.actor.result c.loop-index.pass c.enter.new.pass c.in-Ok.entered c.in-Ok.ensures.ok ∙ ap (λ (w : Seated). w.last) c.loop-index.invariant.1.caller in (
      c.in-Ok.ensures.keeper.pass,
      entered-more c.args.nucleus.now c.actor.result c.args.pass.now c.loop-index.pass c.enter.new.pass c.in-Ok.entered c.loop-index.index c.loop-index.invariant.1 c.in-Ok.ensures.ok c.in-Ok.ensures.keeper.caller c.in-Ok.ensures.keeper.worn,
      subst (AreEntered c.args.nucleus.now c.args.scenario.now begun) (sym c.in-Ok-push.ensures.items) (entered-also c.args.nucleus.now c.args.scenario.now begun c.loop-index.runners.items _ c.loop-index.index (omega (arith, c.loop-index.runners.ok.0, c.loop-index.invariant.3)) c.loop-index.invariant.2 new last),
      omega (arith, c.in-Ok-push.ensures.len, c.loop-index.invariant.3),
      omega (arith, c.in-Ok-push.ensures.capacity, c.loop-index.invariant.4),
    )

pub unreachable-requires : goal.unreachable-requires
unreachable-requires c =
    let scene = c.args.scenario.now in
    let lt : c.loop-index.index < length scene.scripts = subst (λ xs. c.loop-index.index < length xs) c.scripts-index-end.ensures c.loop-index-test.true in
    let at = found-at c.scripts.result.now scene.scripts c.loop-index.index c.index-scripts-index.result c.scripts.ensures lt c.index-scripts-index.is in
    let there = (script-actor scene c.requires.scenario.keeps c.loop-index.index c.index-scripts-index.result at).1 in
    let missing = c.enter.ensures.why.no_actor.0 (c.in-Err-NoActor.is ∙ ap (λ e. Err e) c.in-Err-NoActor.field-0-is) in
    let same = ap (λ l. has_actor l c.actor.result) (sym c.requires.scenario.layout) ∙ ap (has_actor scene.layout) c.actor.ensures in
    false≢true (sym missing ∙ same ∙ there)

pub unreachable-requires-in-Err-NoSeat : goal.unreachable-requires-in-Err-NoSeat
unreachable-requires-in-Err-NoSeat c =
    let told = (c.enter.ensures.why.no_seat c.in-Err-NoSeat.field-0-0).0 (c.in-Err-NoSeat.is ∙ ap (λ e. Err e) c.in-Err-NoSeat.field-0-is) in
    let most : (known c.loop-index.pass).made ≡ limit = told.1 in
    let made = c.loop-index.invariant.1.keeper.made in
    let few = c.requires.scenario.keeps.few_scripts in
    let lt : c.loop-index.index < length c.args.scenario.now.scripts = subst (λ xs. c.loop-index.index < length xs) c.scripts-index-end.ensures c.loop-index-test.true in
    absurd (omega (arith, most, made, few, lt))
