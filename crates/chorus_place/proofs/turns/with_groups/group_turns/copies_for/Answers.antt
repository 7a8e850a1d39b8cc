use Rattle.std.proofs.Common.{◌++◌, ◌∷◌, [], take, ap, sym, ◌∙◌, arith}
use Rattle.chorus_place.specs.PlaceTurns.WithGroups.GroupTurns.{copies}
use Rattle.chorus_place.proofs.PlaceTurns.WithGroups.GroupTurns.{copies-more}
use Rattle.chorus_place.proofs.turns.with_groups.group_turns.copies_for.Goals as goal

pub loop-at-preserved : goal.loop-at-preserved
loop-at-preserved c =
    let m = c.args.message.now in
    let d = c.args.dest.now in
    let q = c.index-members-at.result in
    let n = c.loop-at.at in
    let qs = c.args.members.now in
    let inv = c.loop-at.invariant in
    let len = c.push_back_reserved.ensures.len in
    let cap = c.push_back_reserved.ensures.capacity in
    let items = c.push_back_reserved.ensures.items
    ∙ ap (λ xs. xs ++ record { port = q; wait = record { message = c.in_ok-copied.field-0; only = c.site.result; home = c.args.home } } ∷ []) inv.0
    ∙ (λ i. copies m d c.args.home 1 (take n qs) ++ record { port = q; wait = record { message = c.in_ok-copied.ensures i; only = c.site.ensures i; home = c.args.home } } ∷ [])
    ∙ sym (copies-more m d c.args.home qs n q c.loop-at-test.true (sym c.index-members-at.is)) in
    let count = inv.1 in
    let room = inv.2 in
    (items, omega (arith, len, count), omega (arith, cap, room))
