use Rattle.std.proofs.Common.{◌<◌, ◌≤◌, ◌∙◌, sym, ap, arith, length}
use Rattle.chorus_ports.specs.Table.{find}
use Rattle.chorus_ports.specs.Taking.{taken, after_take}
use Rattle.chorus_ports.proofs.Records.{after_take-same_port, limits-after_take}
use Rattle.chorus_ports.proofs.Rows.{reached, row-missing, seen-replace, kept-replace}
use Rattle.chorus_ports.proofs.Tables.{limits-of, replace-absent}
use Rattle.chorus_ports.proofs.Refusals.{not_taken}
use Rattle.chorus_ports.proofs.ports.Ports.take.Goals as goal

pub returns-then-row-len-clause-value : goal.returns-then-row-len-clause-value
returns-then-row-len-clause-value c =
    let ge : length c.self.inside.records.items ≤ c.row_of-row.result = omega (arith, c.if-row-len.true, c.len.ensures, c.deref.ensures.len, ap length c.deref.ensures.value) in
    let gone = row-missing c.args.ui c.self.inside.records.items _ _ c.deref.ensures.value c.row_of-row.ensures.value ge in
    ap (taken c.args.actor) (sym gone ∙ ap (λ t. find c.args.ui t.records) c.self.view_is)

pub returns-then-row-len-clause-after : goal.returns-then-row-len-clause-after
returns-then-row-len-clause-after c =
    let ge : length c.self.inside.records.items ≤ c.row_of-row.result = omega (arith, c.if-row-len.true, c.len.ensures, c.deref.ensures.len, ap length c.deref.ensures.value) in
    let gone = row-missing c.args.ui c.self.inside.records.items _ _ c.deref.ensures.value c.row_of-row.ensures.value ge in
    let same = replace-absent c.args.ui (after_take c.args.actor) c.args.self.now.records (ap (λ t. find c.args.ui t.records) (sym c.self.view_is) ∙ gone) in
    λ i. record c.args.self.now { records = sym same i }

pub take-requires : goal.take-requires
take-requires c =
    let lt : c.row_of-row.result < length c.self.inside.records.items = omega (arith, c.if-row-len.false, c.len.ensures, c.deref.ensures.len, ap length c.deref.ensures.value, c.row_of-row.ensures.within) in
    let at = reached c.args.ui c.self.inside.records.items _ _ _ _ c.deref.ensures.value c.row_of-row.ensures.value lt c.index_mut.ensures.value in
    limits-of c.args.ui c.self.inside.records.items _ c.self.invariant.limits at.found

pub invariant_of-self : goal.invariant_of-self
invariant_of-self c =
    let lt : c.row_of-row.result < length c.self.inside.records.items = omega (arith, c.if-row-len.false, c.len.ensures, c.deref.ensures.len, ap length c.deref.ensures.value, c.row_of-row.ensures.within) in
    let at = reached c.args.ui c.self.inside.records.items _ _ _ _ c.deref.ensures.value c.row_of-row.ensures.value lt c.index_mut.ensures.value in
    kept-replace c.args.ui (after_take c.args.actor) c.self.inside.records.items _ _ _ c.self.invariant (λ r. (after_take-same_port c.args.actor r).ui) (λ r found limits. limits-after_take c.args.actor r limits) (at.replaced (after_take c.args.actor) _ c.take.ensures.after)

pub returns-clause-value : goal.returns-clause-value
returns-clause-value c =
    let lt : c.row_of-row.result < length c.self.inside.records.items = omega (arith, c.if-row-len.false, c.len.ensures, c.deref.ensures.len, ap length c.deref.ensures.value, c.row_of-row.ensures.within) in
    let at = reached c.args.ui c.self.inside.records.items _ _ _ _ c.deref.ensures.value c.row_of-row.ensures.value lt c.index_mut.ensures.value in
    c.take.ensures.value ∙ ap (taken c.args.actor) (sym at.found ∙ ap (λ t. find c.args.ui t.records) c.self.view_is)

pub returns-clause-after : goal.returns-clause-after
returns-clause-after c =
    let lt : c.row_of-row.result < length c.self.inside.records.items = omega (arith, c.if-row-len.false, c.len.ensures, c.deref.ensures.len, ap length c.deref.ensures.value, c.row_of-row.ensures.within) in
    let at = reached c.args.ui c.self.inside.records.items _ _ _ _ c.deref.ensures.value c.row_of-row.ensures.value lt c.index_mut.ensures.value in
    seen-replace c.args.ui (after_take c.args.actor) c.args.self.now c.self.inside.records.items _ c.self.inside.most c.self.view_is (at.replaced (after_take c.args.actor) _ c.take.ensures.after)

pub returns-clause-not_taken : goal.returns-clause-not_taken
returns-clause-not_taken c = not_taken c.args.ui c.args.actor c.args.self.now _ _ (returns-clause-value c) (returns-clause-after c)
