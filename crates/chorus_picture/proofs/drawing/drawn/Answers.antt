use Rattle.std.proofs.Common.{length, ap, ◌∙◌, arith, drop}
use Rattle.std.proofs.lemmas.List.{length-append}
use Rattle.chorus_show.specs.Journal.{journal_lines}
use Rattle.chorus_picture.proofs.drawing.drawn.Goals as goal

pub push_layers-requires-clause-within : goal.push_layers-requires-clause-within
push_layers-requires-clause-within c = c.requires.lines.within

pub push_layers-requires-clause-lines : goal.push_layers-requires-clause-lines
push_layers-requires-clause-lines c = (c.requires.lines.more, c.behind_lines-lines.ensures ∙ c.requires.lines.lines)

pub split_at-requires : goal.split_at-requires
split_at-requires c =
    let all = ap length (c.behind_lines-lines.ensures ∙ c.requires.lines.lines) ∙ length-append (journal_lines c.args.entries.now) c.requires.lines.more in
    omega (arith, all, c.in_ok-passed.ensures.lines)

pub push_behind_rows-requires-clause-summary : goal.push_behind_rows-requires-clause-summary
push_behind_rows-requires-clause-summary c =
    c.split_at.ensures.back ∙ (λ i. drop (c.in_ok-passed.ensures.lines i) (c.behind_lines-lines.ensures i))
