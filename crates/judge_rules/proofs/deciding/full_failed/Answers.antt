use Rattle.std.proofs.Common.{[], ◌∷◌}
use Rattle.judge_rules.specs.declared.about.About.TheVariants.{Queue}
use Rattle.judge_rules.specs.Conditions.{entering, that, that_due}
use Rattle.judge_rules.specs.Terms.{has_no_space, port_of, so_many_wait}
use Rattle.judge_rules.proofs.Finding.{among_some}
use Rattle.judge_rules.proofs.deciding.full_failed.Goals as goal

pub returns-in-Some : goal.returns-in-Some
returns-in-Some c =
    let l = c.args.ledger.now.layout in
    let past = c.args.ledger.now.past in
    let q = c.args.port in
    among_some 2 (entering l past c.args.place c.args.id q) (that (has_no_space (port_of past q)) (Queue q)) (that (so_many_wait c.args.len (port_of past q)) (Queue q) ∷ that_due l past c.args.place c.args.id q ∷ []) c.in-Some.failed c.in-Some.ensures
