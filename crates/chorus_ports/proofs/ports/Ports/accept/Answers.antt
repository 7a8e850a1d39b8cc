use Rattle.std.proofs.Common.{◌≡◌, ◌+◌, ◌-◌, ◌^◌, ◌<◌, ◌∙◌, sym, ap, subst, arith, is_some, length, IfSome, Some}
use Rattle.chorus_entry.specs.declared.record.PortRecord.{PortRecord}
use Rattle.chorus_ports.specs.Table.{find}
use Rattle.chorus_ports.specs.Deciding.{answer_to, after_offer}
use Rattle.chorus_ports.proofs.Records.{after_offer-same_port, limits-after_offer}
use Rattle.chorus_ports.proofs.Tables.{limits-of}
use Rattle.chorus_ports.proofs.Rows.{reached, row-within, seen-replace, kept-replace}
use Rattle.chorus_ports.proofs.Refusals.{refused}
use Rattle.chorus_ports.proofs.ports.Ports.accept.Goals as goal

pub index_mut-requires : goal.index_mut-requires
index_mut-requires c =
    let held = ap (λ t. is_some (find c.args.ui t.records)) c.self.view_is ∙ c.requires.held in
    let lt = row-within c.args.ui c.self.inside.records.items _ _ c.deref.ensures.value c.row_of-row.ensures.value held in
    omega (arith, lt, c.deref.ensures.len, ap length c.deref.ensures.value)

pub offer-requires-clause-limits : goal.offer-requires-clause-limits
offer-requires-clause-limits c =
    let held = ap (λ t. is_some (find c.args.ui t.records)) c.self.view_is ∙ c.requires.held in
    let lt = row-within c.args.ui c.self.inside.records.items _ _ c.deref.ensures.value c.row_of-row.ensures.value held in
    let at = reached c.args.ui c.self.inside.records.items _ _ _ _ c.deref.ensures.value c.row_of-row.ensures.value lt c.index_mut.ensures.value in
    limits-of c.args.ui c.self.inside.records.items c.index_mut.result.now c.self.invariant.limits at.found

pub offer-requires-clause-positions : goal.offer-requires-clause-positions
offer-requires-clause-positions c =
    let held = ap (λ t. is_some (find c.args.ui t.records)) c.self.view_is ∙ c.requires.held in
    let lt = row-within c.args.ui c.self.inside.records.items _ _ c.deref.ensures.value c.row_of-row.ensures.value held in
    let at = reached c.args.ui c.self.inside.records.items _ _ _ _ c.deref.ensures.value c.row_of-row.ensures.value lt c.index_mut.ensures.value in
    let found : find c.args.ui c.args.self.now.records ≡ Some c.index_mut.result.now = ap (λ t. find c.args.ui t.records) (sym c.self.view_is) ∙ at.found in
    subst (λ o. IfSome o (λ port. port.first + length port.pending < 2 ^ 64 - 1)) found c.requires.positions

pub invariant_of-self : goal.invariant_of-self
invariant_of-self c =
    let held = ap (λ t. is_some (find c.args.ui t.records)) c.self.view_is ∙ c.requires.held in
    let lt = row-within c.args.ui c.self.inside.records.items _ _ c.deref.ensures.value c.row_of-row.ensures.value held in
    let at = reached c.args.ui c.self.inside.records.items _ _ _ _ c.deref.ensures.value c.row_of-row.ensures.value lt c.index_mut.ensures.value in
    let positions : (r : PortRecord) → find c.args.ui c.self.inside.records.items ≡ Some r → r.first + length r.pending < 2 ^ 64 - 1 =
    λ r found. subst (λ o. IfSome o (λ port. port.first + length port.pending < 2 ^ 64 - 1)) (ap (λ t. find c.args.ui t.records) (sym c.self.view_is) ∙ found) c.requires.positions in
    kept-replace c.args.ui (after_offer c.args.message) c.self.inside.records.items _ _ _ c.self.invariant
    (λ r. (after_offer-same_port c.args.message r).ui)
    (λ r found limits. limits-after_offer c.args.message r limits (positions r found))
    (at.replaced (after_offer c.args.message) _ c.offer.ensures.after)

pub returns-clause-answer : goal.returns-clause-answer
returns-clause-answer c =
    let held = ap (λ t. is_some (find c.args.ui t.records)) c.self.view_is ∙ c.requires.held in
    let lt = row-within c.args.ui c.self.inside.records.items _ _ c.deref.ensures.value c.row_of-row.ensures.value held in
    let at = reached c.args.ui c.self.inside.records.items _ _ _ _ c.deref.ensures.value c.row_of-row.ensures.value lt c.index_mut.ensures.value in
    let found : find c.args.ui c.args.self.now.records ≡ Some c.index_mut.result.now = ap (λ t. find c.args.ui t.records) (sym c.self.view_is) ∙ at.found in
    subst (λ o. IfSome o (λ port. c.offer.result ≡ answer_to c.args.message port)) (sym found) c.offer.ensures.answer

pub returns-clause-after : goal.returns-clause-after
returns-clause-after c =
    let held = ap (λ t. is_some (find c.args.ui t.records)) c.self.view_is ∙ c.requires.held in
    let lt = row-within c.args.ui c.self.inside.records.items _ _ c.deref.ensures.value c.row_of-row.ensures.value held in
    let at = reached c.args.ui c.self.inside.records.items _ _ _ _ c.deref.ensures.value c.row_of-row.ensures.value lt c.index_mut.ensures.value in
    seen-replace c.args.ui (after_offer c.args.message) c.args.self.now c.self.inside.records.items _ c.self.inside.most c.self.view_is (at.replaced (after_offer c.args.message) _ c.offer.ensures.after)

pub returns-clause-refused : goal.returns-clause-refused
returns-clause-refused c =
    refused c.args.ui c.args.message c.args.self.now _ _ c.requires.held (returns-clause-answer c) (returns-clause-after c)
