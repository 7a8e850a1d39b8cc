use Rattle.std.proofs.Common.{slice_get, ap, ◌∙◌}
use Rattle.place_outbox.specs.Waiting.{list_to, without_first}
use Rattle.place_outbox.proofs.Places.{next-first, after-first}
use Rattle.place_outbox.proofs.outbox.Outbox.pop.Goals as goal

pub returns-clause-value : goal.returns-clause-value
returns-clause-value c =
    c.take_at.ensures.value ∙ ap (λ p. slice_get (list_to p c.args.self.now.lists) 0) c.first_place-place.ensures ∙ next-first c.args.self.now.lists

pub returns-clause-lists : goal.returns-clause-lists
returns-clause-lists c =
    c.take_at.ensures.lists ∙ ap (λ p. without_first p c.args.self.now.lists) c.first_place-place.ensures ∙ after-first c.args.self.now.lists
