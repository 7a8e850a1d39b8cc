use Rattle.std.proofs.Common.{take, ◌∙◌, ap}
use Rattle.std.proofs.lemmas.List.{take_min}
use Rattle.chorus_judge.specs.declared.texts.TheConstants.{TOLD_LIMIT}
use Rattle.chorus_judge.proofs.texts.first_told.Goals as goal

pub returns : goal.returns
returns c = ap (λ n. take n c.args.opens.now) c.min.ensures ∙ take_min TOLD_LIMIT c.args.opens.now
