use Rattle.std.proofs.Common.{ap}
use Rattle.chorus_link.specs.Ends.{name_of, table_of}
use Rattle.chorus_link.proofs.name.names_tell_links.Goals as goal

pub returns-clause-names : goal.returns-clause-names
returns-clause-names g c = λ x y. (λ same. ap table_of same, λ same. ap name_of same)

pub returns-clause-ends : goal.returns-clause-ends
returns-clause-ends g c = λ send recv. (λ same. ap table_of same, λ same. ap name_of same)
