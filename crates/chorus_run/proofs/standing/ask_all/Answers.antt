use Rattle.std.proofs.Common.{◌<◌, ◌≡◌, ◌+◌, true, List, ap, ◌∙◌, sym, refl, length, subst, arith}
use Rattle.std.specs.Global.{Vec}
use Rattle.chorus_merge.specs.Steps.{lent}
use Rattle.chorus_ui.specs.Layout.{has_site}
use Rattle.chorus_scene.specs.Scene.{Script}
use Rattle.chorus_show.specs.declared.stuck.Stuck.{Stuck}
use Rattle.chorus_run.specs.Standing.{IsAsked}
use Rattle.chorus_run.proofs.Asked.{asked-all, asked-more, found-at, site-at, stuck-more, stuck-same}
use Rattle.chorus_run.proofs.standing.ask_all.Goals as goal
use Rattle.chorus_run.proofs.standing.ask_all.Goals.{then-done-commands+in_ok-push, else-done-commands}

pub ask-requires : goal.ask-requires
ask-requires c =
    let scene = c.args.scenario.now in
    let i = c.loop-index.index in
    let lt : i < length scene.scripts = subst (λ (xs : List Script). i < length xs) c.scripts-index-end.ensures c.loop-index-test.true in
    subst (λ l. has_site l c.index-scripts-index.result.actor.site ≡ true) (sym c.layout-layout.ensures.value)
    (site-at scene c.layout-layout.ensures.keeps i c.index-scripts-index.result (found-at scene c.scripts.result.now i c.index-scripts-index.result c.scripts.ensures lt c.index-scripts-index.is))

pub loop-index-preserved : goal.loop-index-preserved
loop-index-preserved c =
    let scene = c.args.scenario.now in
    let ports = c.args.ports.now in
    let es = lent c.args.entries.now in
    let i = c.loop-index.index in
    let items = c.scripts.result.now in
    let script = c.index-scripts-index.result in
    let lt : i < length scene.scripts = subst (λ (xs : List Script). i < length xs) c.scripts-index-end.ensures c.loop-index-test.true in
    let asked = subst (λ l. IsAsked l ports (i + 1) script es c.in-Some.done) c.layout-layout.ensures.value c.in-Some.ensures in (
      asked-more scene ports es i (i + 1) c.in-Some.done items script c.scripts.ensures lt c.index-scripts-index.is refl asked c.loop-index.invariant.0,
      elim c.if-done-commands.branch [
        | then-done-commands+in_ok-push w ↦
            ap (λ (v : Vec Stuck). v.items) w.stuck-is ∙ w.in_ok-push.ensures.items
            ∙ stuck-more scene ports es i (i + 1) c.in-Some.done items script c.scripts.ensures lt c.index-scripts-index.is refl asked c.loop-index.stuck.items c.loop-index.invariant.1 c.commands.result.now c.commands.ensures w.if-done-commands.true
        | else-done-commands w ↦
            ap (λ (v : Vec Stuck). v.items) w.stuck-is
            ∙ stuck-same scene ports es i (i + 1) c.in-Some.done items script c.scripts.ensures lt c.index-scripts-index.is refl asked c.loop-index.stuck.items c.loop-index.invariant.1 c.commands.result.now c.commands.ensures w.if-done-commands.false
      ],
    )

pub returns : goal.returns
returns c =
    let scene = c.args.scenario.now in
    let len = ap (λ (xs : List Script). length xs) c.scripts-index-end.ensures in
    let all : length scene.scripts ≡ c.loop-index.index = omega (arith, len, c.loop-index.auto.index-end, c.loop-index-test.false) in
    asked-all scene c.args.ports.now (lent c.args.entries.now) c.loop-index.index c.loop-index.stuck.items all c.loop-index.invariant.0 c.loop-index.invariant.1
