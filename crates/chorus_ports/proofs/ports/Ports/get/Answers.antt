use Rattle.std.proofs.Common.{◌∙◌, ap, subst, IfSome}
use Rattle.std.specs.Prelude.{slice_get}
use Rattle.chorus_ports.specs.Limits.{IsWithinLimits}
use Rattle.chorus_ports.specs.Rows.{row_of}
use Rattle.chorus_ports.specs.Table.{find}
use Rattle.chorus_ports.proofs.Rows.{row-get, lent-at}
use Rattle.chorus_ports.proofs.Tables.{limits-found}
use Rattle.chorus_ports.proofs.ports.Ports.get.Goals as goal

pub returns-clause-value : goal.returns-clause-value
returns-clause-value c =
    lent-at c.deref-2.result.now c.row_of-row.result c.get.result c.get.ensures.lookup
    ∙ ap (λ rs. slice_get rs c.row_of-row.result) c.deref-2.ensures.value
    ∙ ap (slice_get c.self.inside.records.items) (c.row_of-row.ensures.value ∙ ap (row_of c.args.ui) c.deref.ensures.value)
    ∙ row-get c.args.ui c.self.inside.records.items
    ∙ ap (λ t. find c.args.ui t.records) c.self.view_is

pub returns-clause-limits : goal.returns-clause-limits
returns-clause-limits c =
    subst (λ t. IfSome (find c.args.ui t.records) IsWithinLimits) c.self.view_is (limits-found c.args.ui c.self.inside.records.items c.self.invariant.limits)
