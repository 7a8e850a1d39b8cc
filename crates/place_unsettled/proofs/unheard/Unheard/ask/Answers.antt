use Rattle.std.proofs.Common.{◌||◌, ap, ◌∙◌}
use Rattle.place_unsettled.specs.Unheard.{is_unheard, is_of}
use Rattle.place_unsettled.proofs.Copies.{asked}
use Rattle.place_unsettled.proofs.unheard.Unheard.ask.Goals as goal

pub returns-clause-ok : goal.returns-clause-ok
returns-clause-ok c x =
    asked _ _ (record { seat = c.args.seat; number = c.args.number }) c.all_open.result c.in_ok-insert.ensures.updates.0 c.all_open.ensures x
    ∙ ap (λ posts. is_of c.args.seat c.args.number x || is_unheard posts x) c.self.view_is
