use Rattle.std.proofs.Common.{rules, ◌≡◌, List, sym, subst}
use Rattle.chorus_choose.specs.declared.chooser.Enabled.{Enabled}
use Rattle.chorus_choose.specs.Looking.{IsChooser}
use Rattle.chorus_choose.proofs.chooser.Chooser.enabled.Goals as goal

pub returns-clause-order : goal.returns-clause-order
returns-clause-order c =
    let xs : List Enabled = c.self.inside.enabled.items in
    let v : c.args.self.now ≡ xs = search rules in
    subst IsChooser (sym v) c.self.invariant.1
