use Rattle.std.proofs.Common.{[], ◌∷◌}
use Rattle.judge_rules.specs.declared.about.About.TheVariants.{Accepts, Queue}
use Rattle.judge_rules.specs.Conditions.{entering, that, that_due}
use Rattle.judge_rules.specs.Terms.{accepted_so_far, has_space, port_of}
use Rattle.judge_rules.proofs.Finding.{among_some}
use Rattle.judge_rules.proofs.deciding.accept_failed.Goals as goal

pub returns-in-Some : goal.returns-in-Some
returns-in-Some c =
    let l = c.args.ledger.now.layout in
    let past = c.args.ledger.now.past in
    let q = c.args.port in
    among_some 2 (entering l past c.args.place c.args.id q) (that (has_space (port_of past q)) (Queue q)) (that (accepted_so_far c.args.pos (port_of past q)) (Accepts q) ∷ that_due l past c.args.place c.args.id q ∷ []) c.in-Some.failed c.in-Some.ensures
