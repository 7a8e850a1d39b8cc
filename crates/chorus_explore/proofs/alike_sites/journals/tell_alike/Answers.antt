use Rattle.std.proofs.Common.{sym, ◌∙◌, arith}
use Rattle.chorus_explore.proofs.AlikeSites.Telling.{entries-tell, empty-in}
use Rattle.chorus_explore.proofs.alike_sites.journals.tell_alike.Goals as goal

pub returns : goal.returns
returns c = λ e.
    entries-tell c.args.one.now.journal.past c.args.other.now.journal.past c.entries-first.result.now c.entries-second.result.now
    c.entries-first.ensures c.entries-second.ensures (c.in_ok-agree_all.ensures (grind (arith, c.if-not-branch-2.false))) (c.in_ok-back.ensures e)
    (λ g h.
    let p = empty-in c.groups-mine.result.now g (c.groups-mine.ensures.named g ∙ h) in
    (sym (c.groups-mine.ensures.members g) ∙ p.0, sym (c.groups-mine.ensures.rotation g) ∙ p.1))
    (λ g h.
    let p = empty-in c.groups-theirs.result.now g (c.groups-theirs.ensures.named g ∙ h) in
    (sym (c.groups-theirs.ensures.members g) ∙ p.0, sym (c.groups-theirs.ensures.rotation g) ∙ p.1))
    (let a = c.if-ports_made.false in let b = c.ports_made.ensures in let d = c.ports_made-2.ensures in omega (arith, a, b, d))
    (let a = c.if-made.false in let b = c.made.ensures in let d = c.made-2.ensures in
    let f = c.groups-mine.ensures.made in let g = c.groups-theirs.ensures.made in omega (arith, a, b, d, f, g))
    (c.in_ok-are_same_made.ensures (grind (arith, c.if-not-branch.false)))
