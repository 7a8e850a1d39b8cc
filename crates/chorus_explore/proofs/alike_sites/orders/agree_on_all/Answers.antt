use Rattle.std.proofs.Common.{reverse, subst, All, take_all, arith}
use Rattle.std.proofs.lemmas.List.Elements.{All-more}
use Rattle.chorus_entry.specs.declared.entry.Entry.{Entry}
use Rattle.chorus_explore.specs.AlikeSites.Orders.{AgreeOn}
use Rattle.chorus_explore.proofs.alike_sites.orders.agree_on_all.Goals as goal

pub loop-entry-preserved : goal.loop-entry-preserved
loop-entry-preserved c =
    let j = reverse c.args.one.now in
    let k = reverse c.args.other.now in
    All-more (λ (e : Entry). AgreeOn j k e.act) c.args.entries.now c.loop-entry.entry-index c.entry-item.result
    c.loop-entry-test.true c.loop-entry.invariant
    (subst (λ (e : Entry). AgreeOn j k e.act) c.entry-item.is (c.in_ok-agree_on.ensures (grind (arith, c.if-not-branch.false))))

pub returns : goal.returns
returns c = λ e.
    subst (All (λ (e : Entry). AgreeOn (reverse c.args.one.now) (reverse c.args.other.now) e.act))
    (take_all c.loop-entry.entry-index c.args.entries.now (let t = c.loop-entry-test.false in omega (arith, t)))
    c.loop-entry.invariant
