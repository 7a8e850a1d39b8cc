use Rattle.std.proofs.Common.{ℕ, ◌++◌, ◌∷◌, [], codes, decimal, ◌∙◌, ap, append_assoc}
use Rattle.chorus_show.specs.Phrases.{spaced}
use Rattle.explore_report.proofs.facts.push_calls.Goals as goal

pub returns : goal.returns
returns c =
    let old = c.args.out.now.items in
    let word = codes "outstanding" in
    let fields = spaced (decimal c.args.script ∷ decimal c.args.number ∷ []) in
    c.in_ok-push.ensures.items
    ∙ ap (λ xs. xs ++ 10 ∷ [])
    (c.in_ok-push_numbers.ensures ∙ ap (λ (n : ℕ). c.extend_from_slice.new.self.items ++ spaced (decimal c.args.script ∷ decimal n ∷ [])) c.from.ensures
    ∙ ap (λ xs. xs ++ spaced (decimal c.args.script ∷ decimal c.args.number ∷ [])) c.in_ok-extend_from_slice.ensures.items ∙ append_assoc old word fields)
    ∙ append_assoc old (word ++ fields) (10 ∷ [])
