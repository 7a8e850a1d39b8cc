use Rattle.law_world.specs.Names.{GroupMakesTheLeast, MadeAllGroups, MadeAllPorts, MakesTheLeast, PostsTheLeast}
use Rattle.chorus_world.proofs.Moments.{layout-entries, legal-entries}
use Rattle.law_world.proofs.Naming.{makes-the-least, made-all-ports, group-makes-the-least, made-all-groups, posts-the-least}
use Rattle.law_world.proofs.names.the_next_name_is_the_least.Goals as goal

pub returns-clause-port : goal.returns-clause-port
returns-clause-port c = layout-entries MakesTheLeast makes-the-least

pub returns-clause-ports_full : goal.returns-clause-ports_full
returns-clause-ports_full c = layout-entries MadeAllPorts made-all-ports

pub returns-clause-group : goal.returns-clause-group
returns-clause-group c = layout-entries GroupMakesTheLeast group-makes-the-least

pub returns-clause-groups_full : goal.returns-clause-groups_full
returns-clause-groups_full c = layout-entries (λ l. MadeAllGroups) made-all-groups

pub returns-clause-message : goal.returns-clause-message
returns-clause-message c = legal-entries (λ l. PostsTheLeast) posts-the-least
