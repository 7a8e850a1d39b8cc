use Rattle.std.proofs.Common.{◌++◌, map, reverse, sym, ◌∙◌, ap}
use Rattle.law_explore.specs.Moment.{accepts_by}
use Rattle.explore_moments.specs.Moments.{accepted_as}
use Rattle.chorus_explore.proofs.alike_sites.orders.accept_same.Goals as goal

pub returns : goal.returns
returns c = λ e.
    let a = ap (map accepted_as) c.as_slice.ensures.value ∙ c.in_ok-push_accepts.ensures ∙ ap (λ xs. map accepted_as xs ++ accepts_by c.args.port (reverse c.args.one.now)) c.new-accepts.ensures.items in
    let b = ap (map accepted_as) c.as_slice-2.ensures.value ∙ c.in_ok-push_accepts-2.ensures ∙ ap (λ xs. map accepted_as xs ++ accepts_by c.args.port (reverse c.args.other.now)) c.new-others.ensures.items in
    sym a ∙ ap (map accepted_as) (c.are_same_accepts-same.ensures e) ∙ b
