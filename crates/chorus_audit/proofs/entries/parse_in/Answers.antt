use Rattle.std.proofs.Common.{subst}
use Rattle.chorus_show.specs.Reading.{parts}
use Rattle.chorus_audit.specs.Calls.{Misses, entry_held}
use Rattle.chorus_audit.proofs.Back.{none_read}
use Rattle.chorus_audit.proofs.entries.parse_in.Goals as goal

pub returns-in-Err-NoEntry-clause-none : goal.returns-in-Err-NoEntry-clause-none
returns-in-Err-NoEntry-clause-none c _ =
    none_read c.args.line.now (subst (λ f. Misses f (entry_held (parts 32 c.args.line.now))) c.in-Err-NoEntry.field-0-is c.in-Err-NoEntry.ensures.reads)
