use Rattle.law_world.specs.Decisions.{AlreadyWhereAccepted, ClientsFullWhereManyAre, DecidesByThePort, DecidesWhatIsDue, NoPortWasMade}
use Rattle.chorus_world.proofs.Moments.{layout-entries, legal-entries}
use Rattle.law_world.proofs.Causes.{decides-what-is-due, decides-by-the-port, no-port-was-made}
use Rattle.law_world.proofs.Remembering.{already-where-accepted, clients-full-where-many}
use Rattle.law_world.proofs.decisions.a_decision_has_its_cause.Goals as goal

pub returns-clause-due : goal.returns-clause-due
returns-clause-due c = layout-entries DecidesWhatIsDue decides-what-is-due

pub returns-clause-cause : goal.returns-clause-cause
returns-clause-cause c = layout-entries DecidesByThePort decides-by-the-port

pub returns-clause-never_made : goal.returns-clause-never_made
returns-clause-never_made c = legal-entries (λ l. NoPortWasMade) no-port-was-made

pub returns-clause-already : goal.returns-clause-already
returns-clause-already c = layout-entries (λ l. AlreadyWhereAccepted) already-where-accepted

pub returns-clause-clients_full : goal.returns-clause-clients_full
returns-clause-clients_full c = layout-entries (λ l. ClientsFullWhereManyAre) clients-full-where-many
