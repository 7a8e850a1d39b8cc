use Rattle.std.proofs.Common.{◌++◌, ◌∷◌, [], Bool, List, reverse, ◌∙◌, ap, subst}
use Rattle.law_explore.specs.declared.moves.Move.{Move}
use Rattle.law_explore.specs.Merging.{ComeToldAlike}
use Rattle.law_replay.specs.Shown.{race_of}
use Rattle.chorus_explore.specs.Stages.{moves_of}
use Rattle.chorus_explore.specs.Tellings.{tells_of}
use Rattle.chorus_explore.proofs.Spares.{taken, given-back}
use Rattle.chorus_explore.proofs.level_search.lead_to_alike.Goals as goal

pub returns-clause-alike : goal.returns-clause-alike
returns-clause-alike c = λ e.
    let there = c.in_ok-other.ensures.there in
    subst (λ (ms : List Move). ComeToldAlike (tells_of c.args.stage.now.asks) (race_of c.args.scenario.now) ms (moves_of c.args.stage.now)) (ap reverse there.moves_are)
    (subst (λ (by : Bool). ComeToldAlike (tells_of by) (race_of c.args.scenario.now) (moves_of c.in_ok-other.other) (moves_of c.args.stage.now)) there.asks_are (c.in_ok-alike.ensures e))

pub returns-clause-spare : goal.returns-clause-spare
returns-clause-spare c =
    let scene = c.args.scenario.now in
    let there = c.in_ok-other.ensures.there in
    given-back scene c.pop.new.self.items c.push_reserved.new.self.items c.in_ok-restarted.field-0
    (c.push_reserved.ensures.items ∙ ap (λ xs. xs ++ c.in_ok-restarted.field-0 ∷ []) c.in_ok-reserve.ensures.items)
    (taken scene c.args.spare.now.items c.pop.new.self.items c.pop.result c.pop.ensures.items c.requires.spare).0
    (c.in_ok-restarted.ensures scene there.reached)
