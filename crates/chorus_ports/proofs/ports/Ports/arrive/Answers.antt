use Rattle.std.proofs.Common.{◌∙◌, ap, arith, is_some}
use Rattle.chorus_ports.specs.Table.{find}
use Rattle.chorus_ports.proofs.Rows.{kept-last}
use Rattle.chorus_ports.proofs.Tables.{none_of}
use Rattle.chorus_ports.proofs.ports.Ports.arrive.Goals as goal

pub invariant_of-self : goal.invariant_of-self
invariant_of-self c =
    let spare = ap (λ t. t.spare) c.self.view_is in
    kept-last c.self.inside.records.items _ c.args.port _ _ _ c.self.invariant c.push_reserved.ensures.capacity
    (none_of (find c.args.port.ui c.self.inside.records.items) (ap (λ t. is_some (find c.args.port.ui t.records)) c.self.view_is ∙ c.requires.not_held))
    (omega (arith, spare, c.requires.room)) c.requires.limits c.push_reserved.ensures.items
