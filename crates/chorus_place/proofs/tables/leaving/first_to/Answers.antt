use Rattle.std.proofs.Common.{ap, sym, ◌∙◌, Some}
use Rattle.std.specs.Prelude.{option_to_list}
use Rattle.std.specs.Option.{option_copied}
use Rattle.place_unsettled.specs.Queues.{queue}
use Rattle.chorus_place.proofs.PlaceTables.Firsts.{found-to, passed-to}
use Rattle.chorus_place.proofs.tables.leaving.first_to.Goals as goal

pub returns-then-is_on_site : goal.returns-then-is_on_site
returns-then-is_on_site c =
    ap Some c.in_ok-again.ensures
    ∙ sym (c.loop-at.invariant
    ∙ found-to c.args.layout c.args.to (queue c.args.waits.now c.args.key.now).waits (option_to_list (option_copied c.args.last)) c.loop-at.at c.in-Some.wait.now
    (sym c.get.ensures ∙ ap option_copied c.in-Some.is) (sym c.is_on_site.ensures ∙ c.if-is_on_site.true))

pub loop-at-preserved : goal.loop-at-preserved
loop-at-preserved c =
    c.loop-at.invariant
    ∙ passed-to c.args.layout c.args.to (queue c.args.waits.now c.args.key.now).waits (option_to_list (option_copied c.args.last)) c.loop-at.at c.in-Some.wait.now
    (sym c.get.ensures ∙ ap option_copied c.in-Some.is) (sym c.is_on_site.ensures ∙ c.if-is_on_site.false)
