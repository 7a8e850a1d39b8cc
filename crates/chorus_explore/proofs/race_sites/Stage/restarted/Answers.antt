use Rattle.std.proofs.Common.{◌∙◌, ap}
use Rattle.law_network.specs.Calls.{just_started}
use Rattle.chorus_explore.proofs.Moving.{layout-at}
use Rattle.chorus_explore.proofs.race_sites.Stage.restarted.Goals as goal

pub returns : goal.returns
returns c = λ scene h. c.in_ok-sites.ensures.started ∙ ap just_started (layout-at scene c.args.self h)
