use Rattle.std.proofs.Common.{◌≡◌, true, false, refl, sym, ◌∙◌, arith}
use Rattle.std.proofs.lemmas.Bool.{false≢true}
use Rattle.chorus_explore.proofs.exploration.tell_drawn.Goals as goal

pub returns-then-not-explored-clause-told : goal.returns-then-not-explored-clause-told
returns-then-not-explored-clause-told c =
    let uncut : c.args.explored.now.is_cut ≡ false = grind (arith, c.if-not-explored.true) in
    (λ k. absurd (false≢true (sym uncut ∙ k)), λ k. refl)

pub returns-in-Ok-clause-told : goal.returns-in-Ok-clause-told
returns-in-Ok-clause-told c =
    let cut : c.args.explored.now.is_cut ≡ true = grind (arith, c.if-not-explored.false) in
    (λ k. c.in-Ok.ensures.adds, λ k. absurd (false≢true (sym k ∙ cut)))
