use Rattle.std.proofs.Common.{ℕ, ◌≡◌, List, [], ◌∷◌, ◌++◌, reverse, sym, refl, ◌∙◌, ap, subst, arith}
use Rattle.law_explore.specs.declared.moves.Move.{Move}
use Rattle.chorus_explore.specs.DrawnOutcomes.{AlsoTells, IsLeftOut, IsToldBeside, drawn_by, histories_in}
use Rattle.chorus_explore.specs.Drawings.{one_drawn}
use Rattle.chorus_explore.specs.Stages.{moves_of}
use Rattle.chorus_explore.proofs.ToldBeside.{left-out, told-more}
use Rattle.chorus_explore.proofs.drawn_outcomes.Outcomes.draw.Goals as goal

pub returns-then-branch-clause-draws : goal.returns-then-branch-clause-draws
returns-then-branch-clause-draws c = λ first front start has.
    let scene = c.args.scenario.now in
    let o = c.args.self.now in
    let old = c.args.explored.now in
    let stage = c.follow.new.stage in
    let drawn = c.in_ok-self.ensures.drawn in
    let h : List Move = (one_drawn scene o.state).0 in
    let same : moves_of stage ≡ h = sym (ap (λ (p : List Move × ℕ). p.0) drawn) in
    let kept : moves_of c.is_told.new.stage ≡ h = ap (λ v. reverse v.items) c.is_told.ensures.kept.0 ∙ same in
    let told = c.in_ok-is_told.ensures.yes (grind (arith, c.if-branch.true)) in
    told-more scene first front start old c.tell.new.explored o c.tell.new.self has
    (c.tell.ensures.state ∙ sym (ap (λ (p : List Move × ℕ). p.1) drawn)) c.in_ok-tell.ensures.fresh
    (subst (λ (hs : List (List Move)). IsToldBeside scene old.bound hs h) (ap histories_in c.deref.ensures.value)
    (subst (IsToldBeside scene old.bound (histories_in c.deref.result.now)) same told))
    (c.in_ok-tell.ensures.told ∙ ap (λ (k : List Move). drawn_by o ++ k ∷ []) kept)
    (subst (λ (k : List Move). AlsoTells scene (k ∷ []) old c.tell.new.explored) kept c.in_ok-tell.ensures.tells)

pub returns-clause-draws : goal.returns-clause-draws
returns-clause-draws c = λ first front start has.
    let scene = c.args.scenario.now in
    let o = c.args.self.now in
    let old = c.args.explored.now in
    let stage = c.follow.new.stage in
    let drawn = c.in_ok-self.ensures.drawn in
    let h : List Move = (one_drawn scene o.state).0 in
    let same : moves_of stage ≡ h = sym (ap (λ (p : List Move × ℕ). p.0) drawn) in
    let out = c.in_ok-is_told.ensures.no (grind (arith, c.if-branch.false)) in
    left-out scene first front start old old o _ has
    (sym (ap (λ (p : List Move × ℕ). p.1) drawn)) (c.in_ok-restarted.ensures scene c.is_told.ensures.reached)
    (subst (λ (hs : List (List Move)). IsLeftOut scene old.bound hs h) (ap histories_in c.deref.ensures.value)
    (subst (IsLeftOut scene old.bound (histories_in c.deref.result.now)) same out))
    refl refl
