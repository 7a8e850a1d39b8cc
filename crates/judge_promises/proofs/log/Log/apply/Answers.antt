use Rattle.std.proofs.Common.{Some, ◌∙◌, ap, sym}
use Rattle.std.specs.Option.{option_map}
use Rattle.judge_promises.specs.Blames.{blame_with}
use Rattle.judge_promises.proofs.log.Log.apply.Goals as goal

pub returns-in-Some-clause-refused : goal.returns-in-Some-clause-refused
returns-in-Some-clause-refused c =
    ap (option_map (blame_with c.args.self.now.past c.args.entry)) (sym c.breach_by.ensures ∙ c.in-Some.is)
    ∙ ap Some (sym c.blame_with.ensures)
