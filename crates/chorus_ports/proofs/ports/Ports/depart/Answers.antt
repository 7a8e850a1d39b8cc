use Rattle.std.proofs.Common.{◌<◌, ◌≤◌, ◌∙◌, sym, ap, arith, is_some, length}
use Rattle.chorus_ports.specs.Table.{find, without}
use Rattle.chorus_ports.proofs.Rows.{reached, row-missing, row-removed, kept-without}
use Rattle.chorus_ports.proofs.Tables.{limits-of, without-absent}
use Rattle.chorus_ports.proofs.ports.Ports.depart.Goals as goal

pub returns-then-row-len-clause-value : goal.returns-then-row-len-clause-value
returns-then-row-len-clause-value c =
    let ge : length c.self.inside.records.items ≤ c.row_of-row.result = omega (arith, c.if-row-len.true, c.len.ensures, c.deref.ensures.len, ap length c.deref.ensures.value) in
    let gone = row-missing c.args.ui c.self.inside.records.items _ _ c.deref.ensures.value c.row_of-row.ensures.value ge in
    sym (ap (λ t. find c.args.ui t.records) (sym c.self.view_is) ∙ gone)

pub returns-then-row-len-clause-records : goal.returns-then-row-len-clause-records
returns-then-row-len-clause-records c =
    let ge : length c.self.inside.records.items ≤ c.row_of-row.result = omega (arith, c.if-row-len.true, c.len.ensures, c.deref.ensures.len, ap length c.deref.ensures.value) in
    let gone = row-missing c.args.ui c.self.inside.records.items _ _ c.deref.ensures.value c.row_of-row.ensures.value ge in
    sym (without-absent c.args.ui c.args.self.now.records (ap (λ t. find c.args.ui t.records) (sym c.self.view_is) ∙ gone))

pub invariant_of-self : goal.invariant_of-self
invariant_of-self c =
    let lt : c.row_of-row.result < length c.self.inside.records.items = omega (arith, c.if-row-len.false, c.len.ensures, c.deref.ensures.len, ap length c.deref.ensures.value, c.row_of-row.ensures.within) in
    let at = reached c.args.ui c.self.inside.records.items _ _ _ _ c.deref.ensures.value c.row_of-row.ensures.value lt c.remove.ensures.value in
    kept-without c.args.ui c.self.inside.records.items _ _ _ _ c.self.invariant c.remove.ensures.capacity (ap is_some at.found) (row-removed c.args.ui c.self.inside.records.items _ _ _ c.deref.ensures.value c.row_of-row.ensures.value lt c.remove.ensures.items)

pub returns-clause-value : goal.returns-clause-value
returns-clause-value c =
    let lt : c.row_of-row.result < length c.self.inside.records.items = omega (arith, c.if-row-len.false, c.len.ensures, c.deref.ensures.len, ap length c.deref.ensures.value, c.row_of-row.ensures.within) in
    let at = reached c.args.ui c.self.inside.records.items _ _ _ _ c.deref.ensures.value c.row_of-row.ensures.value lt c.remove.ensures.value in
    sym at.found ∙ ap (λ t. find c.args.ui t.records) c.self.view_is

pub returns-clause-limits : goal.returns-clause-limits
returns-clause-limits c =
    let lt : c.row_of-row.result < length c.self.inside.records.items = omega (arith, c.if-row-len.false, c.len.ensures, c.deref.ensures.len, ap length c.deref.ensures.value, c.row_of-row.ensures.within) in
    let at = reached c.args.ui c.self.inside.records.items _ _ _ _ c.deref.ensures.value c.row_of-row.ensures.value lt c.remove.ensures.value in
    limits-of c.args.ui c.self.inside.records.items _ c.self.invariant.limits at.found

pub returns-clause-records : goal.returns-clause-records
returns-clause-records c =
    let lt : c.row_of-row.result < length c.self.inside.records.items = omega (arith, c.if-row-len.false, c.len.ensures, c.deref.ensures.len, ap length c.deref.ensures.value, c.row_of-row.ensures.within) in
    row-removed c.args.ui c.self.inside.records.items _ _ _ c.deref.ensures.value c.row_of-row.ensures.value lt c.remove.ensures.items
    ∙ ap (λ t. without c.args.ui t.records) c.self.view_is
