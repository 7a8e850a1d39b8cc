use Rattle.chorus_explore.proofs.Moving.{go-below}
use Rattle.chorus_explore.proofs.race_sites.Stage.next.Goals as goal

pub left_of-requires-clause-index : goal.left_of-requires-clause-index
left_of-requires-clause-index c = go-below c.args.scenario.now c.args.self.now c.requires.reached c.args.index c.requires.may
