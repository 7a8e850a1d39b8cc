use Rattle.std.proofs.Common.{reverse, sym, ◌∙◌, ap, arith}
use Rattle.chorus_explore.proofs.HistoriesTold.{none-first, none-more, none-there, stands-there}
use Rattle.chorus_explore.proofs.drawn_outcomes.are_among.Goals as goal

pub loop-one-init : goal.loop-one-init
loop-one-init c = none-first c.args.told.now (reverse c.args.moves.now)

pub loop-one-preserved : goal.loop-one-preserved
loop-one-preserved c =
    none-more c.args.told.now c.loop-one.one-index c.one-item.result c.args.moves.now c.loop-one-test.true c.loop-one.invariant
    (λ e. c.are_same_moves.ensures.no c.if-are_same_moves.false (c.deref.ensures.value ∙ (ap (λ v. v.items) c.one-item.is ∙ e)))

pub returns-then-are_same_moves-clause-yes : goal.returns-then-are_same_moves-clause-yes
returns-then-are_same_moves-clause-yes c = λ e.
    stands-there c.args.told.now c.loop-one.one-index c.one-item.result c.args.moves.now c.loop-one-test.true
    (sym (ap (λ v. v.items) c.one-item.is) ∙ (sym c.deref.ensures.value ∙ c.are_same_moves.ensures.yes c.if-are_same_moves.true))

pub returns-clause-no : goal.returns-clause-no
returns-clause-no c = λ e.
    none-there c.args.told.now c.loop-one.one-index (reverse c.args.moves.now)
    (let t = c.loop-one-test.false in omega (arith, t)) c.loop-one.invariant
