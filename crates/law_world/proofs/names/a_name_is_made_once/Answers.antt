use Rattle.law_world.specs.Names.{MakesGroupsOnce, MakesOnce, PostsOnce}
use Rattle.chorus_world.proofs.Moments.{always-legal, always-on}
use Rattle.law_world.proofs.Naming.{makes-once, makes-groups-once, posts-once}
use Rattle.law_world.proofs.names.a_name_is_made_once.Goals as goal

pub returns-clause-port : goal.returns-clause-port
returns-clause-port c = always-on MakesOnce makes-once

pub returns-clause-group : goal.returns-clause-group
returns-clause-group c = always-on MakesGroupsOnce makes-groups-once

pub returns-clause-message : goal.returns-clause-message
returns-clause-message c = always-legal PostsOnce posts-once
