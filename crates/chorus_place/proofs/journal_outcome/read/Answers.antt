use Rattle.std.proofs.Common.{◌<◌, length, reverse, take, sym, ap, ◌∙◌, rules}
use Rattle.std.specs.Option.{option_or}
use Rattle.chorus_world.specs.Views.{by}
use Rattle.chorus_world.specs.Posts.{posted_in, source}
use Rattle.law_machine.specs.Outcomes.{answer_for, answer_by}
use Rattle.chorus_place.specs.Outcomes.{goes_to, dest_by}
use Rattle.chorus_place.proofs.Passing.{next-entry, dest_more}
use Rattle.chorus_place.proofs.journal_outcome.read.Goals as goal

pub loop-entry-preserved : goal.loop-entry-preserved
loop-entry-preserved c =
    let x = c.args.id in
    let e = c.entry-item.result in
    let here = reverse (take c.loop-entry.entry-index c.args.entries.now) in
    let within : c.loop-entry.entry-index < length c.args.entries.now = search rules in
    let next = next-entry c.args.entries.now c.loop-entry.entry-index e within c.entry-item.is in
    let post = c.source-post_id.ensures in (
      c.or-dest.ensures
          ∙ ap (λ o. option_or o c.dest_by.result) c.loop-entry.invariant.0
          ∙ ap (option_or (goes_to (posted_in (source x) (by x.seat here)))) (c.dest_by.ensures ∙ ap (λ y. dest_by y e) post)
          ∙ sym (ap (λ es. goes_to (posted_in (source x) (by x.seat es))) next ∙ dest_more (source x) e here),
      c.or-post.ensures
          ∙ ap (λ o. option_or o c.answer_by.result) c.loop-entry.invariant.1
          ∙ ap (option_or (answer_for (source x) here)) (c.answer_by.ensures ∙ ap (λ y. answer_by y e.act) post)
          ∙ sym (ap (answer_for (source x)) next),
      c.or-own.ensures
          ∙ ap (λ o. option_or o c.answer_by-in-loop-entry.result) c.loop-entry.invariant.2
          ∙ ap (option_or (answer_for x here)) c.answer_by-in-loop-entry.ensures
          ∙ sym (ap (answer_for x) next),
    )
