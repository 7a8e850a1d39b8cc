use Rattle.std.proofs.Common.{refl, ap, ◌∙◌}
use Rattle.chorus_board.specs.Law.{entries_in}
use Rattle.chorus_board.proofs.Publishes.{first_fine}
use Rattle.chorus_board.proofs.start.blank.Goals as goal

pub returns-clause-fine : goal.returns-clause-fine
returns-clause-fine c =
    first_fine c.args.layout (record { hints = c.in_ok-with_room.field-0; place = c.args.place; upto = 0; clock = 0; seen = c.again.result }) c.in_ok-with_room.ensures.value refl refl (ap (λ s. entries_in s.log) c.again.ensures ∙ c.requires)
