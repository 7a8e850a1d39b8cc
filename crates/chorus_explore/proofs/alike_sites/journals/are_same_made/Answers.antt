use Rattle.std.proofs.Common.{◌++◌, reverse, sym, ◌∙◌, ap}
use Rattle.law_explore.specs.Outcome.{made_by}
use Rattle.chorus_explore.proofs.alike_sites.journals.are_same_made.Goals as goal

pub returns : goal.returns
returns c = λ e.
    let a = c.as_slice.ensures.value ∙ c.in_ok-push_made.ensures ∙ ap (λ xs. xs ++ made_by (reverse c.args.one.now)) c.new-made.ensures.items in
    let b = c.as_slice-2.ensures.value ∙ c.in_ok-push_made-2.ensures ∙ ap (λ xs. xs ++ made_by (reverse c.args.other.now)) c.new-others.ensures.items in
    sym a ∙ c.are_same_names-same.ensures e ∙ b
