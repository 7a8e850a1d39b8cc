use Rattle.std.proofs.Common.{◌++◌, map, reverse, sym, ◌∙◌, ap}
use Rattle.law_explore.specs.Moment.{sent_by}
use Rattle.explore_moments.specs.Moments.{sent_as}
use Rattle.chorus_explore.proofs.alike_sites.orders.send_same.Goals as goal

pub returns : goal.returns
returns c = λ e.
    let a = ap (map sent_as) c.as_slice.ensures.value ∙ c.in_ok-push_sent.ensures ∙ ap (λ xs. map sent_as xs ++ sent_by c.args.id (reverse c.args.one.now)) c.new-copies.ensures.items in
    let b = ap (map sent_as) c.as_slice-2.ensures.value ∙ c.in_ok-push_sent-2.ensures ∙ ap (λ xs. map sent_as xs ++ sent_by c.args.id (reverse c.args.other.now)) c.new-others.ensures.items in
    sym a ∙ ap (map sent_as) (c.are_same_copies-same.ensures e) ∙ b
