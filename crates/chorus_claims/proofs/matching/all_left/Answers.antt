use Rattle.std.proofs.Common.{◌∙◌, ap}
use Rattle.std.specs.Option.{option_copied}
use Rattle.chorus_claims.specs.Words.{words_behind, words_in}
use Rattle.chorus_claims.specs.Shapes.{facts_in}
use Rattle.chorus_claims.specs.Ways.{meanings_of, right_of, all_left}
use Rattle.chorus_claims.proofs.Steps.{all-left}
use Rattle.chorus_claims.proofs.matching.all_left.Goals as goal

pub returns : goal.returns
returns c =
    c.each_line.ensures
    ∙ all-left (record { lines = c.args.lines; right = c.args.right }) (words_behind (option_copied c.args.left)) (meanings_of c.new.result)
    ∙ ap (λ e. all_left (words_in c.args.lines.now) (right_of c.args.right) (facts_in (words_behind (option_copied c.args.left))) e) c.new.ensures
