use Rattle.chorus_transport.specs.Line.{line_after}
use Rattle.chorus_transport.proofs.LineLemmas.{line_holds, delivered_prefix, delivered_counted, never_beyond}
use Rattle.chorus_transport.proofs.line.line_delivers_prefix.Goals as goal

pub returns-clause-prefix : goal.returns-clause-prefix
returns-clause-prefix c = λ window events. delivered_prefix (line_after window events) (line_holds window events)

pub returns-clause-in_order : goal.returns-clause-in_order
returns-clause-in_order c = λ window events. (line_holds window events).base

pub returns-clause-never_beyond : goal.returns-clause-never_beyond
returns-clause-never_beyond c = λ window events which. never_beyond (line_after window events) which (line_holds window events)

pub returns-clause-counted : goal.returns-clause-counted
returns-clause-counted c =
    λ window events. ((line_holds window events).counted, delivered_counted (line_after window events) (line_holds window events))
