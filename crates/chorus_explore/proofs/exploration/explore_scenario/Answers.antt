use Rattle.std.proofs.Common.{ℕ, List, subst, refl, sym}
use Rattle.chorus_explore.specs.Explored.{IsExploration}
use Rattle.chorus_explore.proofs.ToldBeside.{explored}
use Rattle.chorus_explore.proofs.exploration.explore_scenario.Goals as goal

pub returns-in-Ok-clause-explored : goal.returns-in-Ok-clause-explored
returns-in-Ok-clause-explored c =
    let found = c.in_ok-explored in
    subst (λ (text : List ℕ). IsExploration c.args.scenario.now c.args.most c.args.first text) (sym c.in-Ok.ensures)
    (explored c.args.scenario.now _ c.args.most c.args.first found.explored c.tell_drawn.new.explored found.ensures.over refl c.from.ensures found.ensures.carried c.in_ok-tell_drawn.ensures.told)
