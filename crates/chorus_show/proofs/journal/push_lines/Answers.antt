use Rattle.std.proofs.Common.{◌++◌, ◌∙◌, ap, length, arith}
use Rattle.std.specs.List.{flat_map}
use Rattle.std.proofs.lemmas.Grind.{common_steps}
use Rattle.std.proofs.lemmas.List.{take_all}
use Rattle.std.proofs.lemmas.List.Elements.{AllWithin-more, AllWithin-upto, at_read}
use Rattle.chorus_show.proofs.Lent.{lent_line, IsLentWithin, lent_lines_are, lent_within}
use Rattle.chorus_show.proofs.journal.push_lines.Goals as goal

pub loop-entry-preserved : goal.loop-entry-preserved
loop-entry-preserved c =
    let entries = c.args.entries.now in
    let index = c.loop-entry.entry-index in
    record {
      text = grind (arith, common_steps);
      within = AllWithin-more IsLentWithin entries 0 index c.loop-entry.invariant.within
          (at_read entries IsLentWithin index c.entry-item.result c.loop-entry-test.true c.entry-item.is c.in_ok-push_line.ensures.within);
    }

pub returns-clause-ok : goal.returns-clause-ok
returns-clause-ok c =
    let entries = c.args.entries.now in
    let before = c.args.out.now.items in
    c.loop-entry.invariant.text
    ∙ ap (λ es. before ++ flat_map (λ e. lent_line e) es) (take_all c.loop-entry.entry-index entries c.loop-entry-test.false)
    ∙ ap (λ text. before ++ text) (lent_lines_are entries)

pub returns-clause-within : goal.returns-clause-within
returns-clause-within c =
    let entries = c.args.entries.now in
    lent_within entries (AllWithin-upto IsLentWithin entries 0 c.loop-entry.entry-index (length entries) c.loop-entry-test.false c.loop-entry.invariant.within)
