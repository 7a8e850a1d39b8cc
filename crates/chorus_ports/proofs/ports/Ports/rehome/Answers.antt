use Rattle.std.proofs.Common.{◌∙◌, ap, arith, refl, is_some, length}
use Rattle.chorus_ports.specs.Table.{find}
use Rattle.chorus_ports.specs.Taking.{rehomed}
use Rattle.chorus_ports.proofs.Records.{limits-rehomed}
use Rattle.chorus_ports.proofs.Rows.{reached, row-within, seen-replace, kept-replace}
use Rattle.chorus_ports.proofs.ports.Ports.rehome.Goals as goal

pub index_mut-port-requires : goal.index_mut-port-requires
index_mut-port-requires c =
    let held = ap (λ t. is_some (find c.args.ui t.records)) c.self.view_is ∙ c.requires in
    let lt = row-within c.args.ui c.self.inside.records.items _ _ c.deref.ensures.value c.row_of-row.ensures.value held in
    omega (arith, lt, c.deref.ensures.len, ap length c.deref.ensures.value)

pub invariant_of-self : goal.invariant_of-self
invariant_of-self c =
    let held = ap (λ t. is_some (find c.args.ui t.records)) c.self.view_is ∙ c.requires in
    let lt = row-within c.args.ui c.self.inside.records.items _ _ c.deref.ensures.value c.row_of-row.ensures.value held in
    let at = reached c.args.ui c.self.inside.records.items _ _ _ _ c.deref.ensures.value c.row_of-row.ensures.value lt c.index_mut-port.ensures.value in
    kept-replace c.args.ui (rehomed c.args.actor) c.self.inside.records.items _ _ _ c.self.invariant (λ r. refl) (λ r found limits. limits-rehomed c.args.actor r limits) (at.replaced (rehomed c.args.actor) _ refl)

pub returns : goal.returns
returns c =
    let held = ap (λ t. is_some (find c.args.ui t.records)) c.self.view_is ∙ c.requires in
    let lt = row-within c.args.ui c.self.inside.records.items _ _ c.deref.ensures.value c.row_of-row.ensures.value held in
    let at = reached c.args.ui c.self.inside.records.items _ _ _ _ c.deref.ensures.value c.row_of-row.ensures.value lt c.index_mut-port.ensures.value in
    seen-replace c.args.ui (rehomed c.args.actor) c.args.self.now c.self.inside.records.items _ c.self.inside.most c.self.view_is (at.replaced (rehomed c.args.actor) _ refl)
