use Rattle.chorus_sessions.proofs.Steps.{goes-not}
use Rattle.chorus_sessions.proofs.running.run_to_the_end.Goals as goal

pub returns-then-not-all_came-clause-pass : goal.returns-then-not-all_came-clause-pass
returns-then-not-all_came-clause-pass g c = goes-not c.args.nucleus.now c.args.pass.now c.requires.pass
