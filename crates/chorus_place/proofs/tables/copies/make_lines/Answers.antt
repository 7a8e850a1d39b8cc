use Rattle.std.proofs.Common.{◌<◌, sym, ◌∙◌}
use Rattle.std.proofs.lemmas.List.{take_all}
use Rattle.std.proofs.lemmas.List.Elements.{All-same}
use Rattle.place_unsettled.specs.Queues.{room}
use Rattle.law_machine.specs.Choosing.{by_group}
use Rattle.chorus_place.proofs.PlaceTables.Choosing.{lines-more}
use Rattle.chorus_place.proofs.tables.copies.make_lines.Goals as goal

pub loop-at-preserved : goal.loop-at-preserved
loop-at-preserved c = (
  (λ k. c.reserve.ensures.queues k ∙ c.loop-at.invariant.0 k),
  lines-more c.args.group c.loop-at.waits c.reserve.new.self c.args.members.now c.loop-at.at c.index-members-at.result c.loop-at-test.true (sym c.index-members-at.is)
      c.reserve.ensures.kept c.in_ok-reserve.ensures.room c.loop-at.invariant.1,
)

pub returns-clause-lines : goal.returns-clause-lines
returns-clause-lines c =
    All-same (λ q. 0 < room c.loop-at.waits (by_group c.args.group q)) c.args.members.now _ (sym (take_all c.loop-at.at c.args.members.now c.loop-at-test.false)) c.loop-at.invariant.1
