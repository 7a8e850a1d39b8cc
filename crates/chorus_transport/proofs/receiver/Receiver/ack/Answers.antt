use Rattle.std.proofs.Common.{◌+◌, is_some, arith, ap, sym, ◌∙◌}
use Rattle.std.proofs.lemmas.List.Sums.{prefix_len-le-length}
use Rattle.chorus_transport.proofs.PlaceLemmas.{prefix_len-padded, known_below_ack, ack_not_known}
use Rattle.chorus_transport.proofs.receiver.Receiver.ack.Goals as goal

pub overflow_add-result : goal.overflow_add-result
overflow_add-result c = omega (arith, prefix_len-le-length is_some c.self.inside.places.items)

pub returns-clause-value : goal.returns-clause-value
returns-clause-value c =
    rw (← c.self.view_is) (ap (λ k. c.self.inside.delivered + k) (c.self.invariant.counted ∙ sym (prefix_len-padded _ c.self.inside.places.items)))

pub returns-clause-known_below : goal.returns-clause-known_below
returns-clause-known_below c =
    λ number below. known_below_ack c.args.self.now number (rw (returns-clause-value c) at below)

pub returns-clause-not_known : goal.returns-clause-not_known
returns-clause-not_known c = rw (returns-clause-value c) (ack_not_known c.args.self.now)
