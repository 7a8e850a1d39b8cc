use Rattle.std.proofs.Common.{refl, sym}
use Rattle.chorus_explore.proofs.Adding.{script-added, script-none, script-waits}
use Rattle.chorus_explore.proofs.race_sites.Stage.add_script.Goals as goal

pub returns-in_default : goal.returns-in_default
returns-in_default c = script-none c.args.scenario.now c.args.self.now c.args.index c.args.moves.now.items (c.in_default.ensures.none refl)

pub returns-then-not-goes_on : goal.returns-then-not-goes_on
returns-then-not-goes_on c =
    script-waits c.args.scenario.now c.args.self.now c.args.index c.args.moves.now.items (sym c.if-not-goes_on.ensures)

pub returns : goal.returns
returns c =
    script-added c.args.scenario.now c.args.self.now c.requires.reached c.args.index _
    c.args.moves.now.items c.push.new.self.items c.in-Some.ensures.some (sym c.if-not-goes_on.ensures) c.in_ok-push.ensures.items
