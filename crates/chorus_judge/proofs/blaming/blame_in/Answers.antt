use Rattle.std.proofs.Common.{subst}
use Rattle.std.specs.Prelude.{reverse}
use Rattle.chorus_audit.specs.Tests.{IsRead}
use Rattle.chorus_judge.proofs.blaming.blame_in.Goals as goal

pub blame_entry-requires-clause-read : goal.blame_entry-requires-clause-read
blame_entry-requires-clause-read c =
    subst (λ a. IsRead c.args.ledger.now.layout c.args.text.now a (reverse c.args.ledger.now.past)) c.in-Wrong.is c.requires
