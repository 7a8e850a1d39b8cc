use Rattle.std.proofs.Common.{ap, ◌∙◌, reverse, find}
use Rattle.chorus_world.specs.Places.{first_for, unsettled, sent}
use Rattle.chorus_world.specs.Steps.{State}
use Rattle.chorus_world.specs.Views.{at}
use Rattle.checker_rows.specs.Lines.{line_in}
use Rattle.checker_rows.specs.declared.keys.LineKey.{LineKey}
use Rattle.checker_ledger.proofs.SendLemmas.{line_first}
use Rattle.checker_ledger.proofs.TieLemmas.{settled_open}
use Rattle.checker_ledger.proofs.ledger.Ledger.first_for.Goals as goal

pub returns : goal.returns
returns c =
    let past = reverse c.self.inside.entries.items in
    let l = c.self.inside.layout in
    let k : LineKey = record { place = c.args.place; name = c.args.port; route = c.args.route } in
    let f = c.self.invariant.1 in
    let xs = line_in c.self.inside.tables.lines k in
    c.first_open.ensures
    ∙ (ap (λ t. find t xs) (settled_open l past c.self.inside.tables f)
    ∙ (line_first l past k xs c.self.invariant.0 (f.lines k)
    ∙ ap (λ (w : State). first_for c.args.port c.args.route (unsettled (at c.args.place w.past) (sent (at c.args.place w.past)))) c.self.view_is))
