use Rattle.std.proofs.Common.{◌≡◌, List, [], ◌∷◌, ◌++◌, reverse, true, sym, ◌∙◌, ap, subst, arith, length, ◌<◌, ◌^◌}
use Rattle.std.proofs.lemmas.List.{reverse-append, length-reverse}
use Rattle.chorus_entry.specs.declared.entry.Entry.{Entry}
use Rattle.chorus_world.specs.Ports.{fate}
use Rattle.chorus_world.specs.Steps.{State, may}
use Rattle.chorus_world.specs.Views.{on}
use Rattle.checker_ledger.specs.Ties.{Follows}
use Rattle.checker_ledger.proofs.TieLemmas.{grown, same_rows, has_few, few_stays, room_stays}
use Rattle.checker_ledger.proofs.StepLemmas.{make_fits, take_fits, legal_grows}
use Rattle.checker_ledger.proofs.ledger.Ledger.append.Goals as goal

pub grow_lists-requires-clause-makes : goal.grow_lists-requires-clause-makes
grow_lists-requires-clause-makes c =
    make_fits c.args.self.now.layout c.args.self.now.past c.args.entry c.requires

pub grow_lists-requires-clause-takes : goal.grow_lists-requires-clause-takes
grow_lists-requires-clause-takes c =
    let l = c.self.inside.layout in
    let past = reverse c.self.inside.entries.items in
    let f = same_rows l past c.self.inside.tables c.make_room.new.self c.in_ok-make_room.ensures.rows c.self.invariant.1 in
    λ q g o m.
    take_fits c.args.self.now.layout c.args.self.now.past c.args.entry q g c.requires o
    (ap (λ (w : State). fate (on q w.past)) (sym c.self.view_is) ∙ (sym (f.ports q) ∙ m))

pub grow_rows-requires-clause-room : goal.grow_rows-requires-clause-room
grow_rows-requires-clause-room c =
    room_stays c.args.entry c.make_room.new.self c.grow_lists.new.self c.in_ok-grow_lists.ensures.ok c.in_ok-make_room.ensures.room c.in_ok-make_room.ensures.joining

pub grow_rows-requires-clause-few : goal.grow_rows-requires-clause-few
grow_rows-requires-clause-few c =
    let l = c.self.inside.layout in
    let past = reverse c.self.inside.entries.items in
    let r = c.make_room.new.self in
    let few : length past < 2 ^ 63 = omega (arith, length-reverse c.self.inside.entries.items, ap length c.in_ok-reserve.ensures.items) in
    let f = same_rows l past c.self.inside.tables r c.in_ok-make_room.ensures.rows c.self.invariant.1 in
    few_stays c.args.entry r c.grow_lists.new.self c.in_ok-grow_lists.ensures.ok (has_few l past r c.args.entry f few)

pub invariant_of-self-2 : goal.invariant_of-self-2
invariant_of-self-2 c =
    let l = c.self.inside.layout in
    let es = c.self.inside.entries.items in
    let past = reverse es in
    let e = c.args.entry in
    let items : c.push_reserved.new.self.items ≡ es ++ e ∷ [] = c.push_reserved.ensures.items ∙ ap (λ (xs : List Entry). xs ++ e ∷ []) c.in_ok-reserve.ensures.items in
    let may_come : may l past e ≡ true = ap (λ (w : State). may w.layout w.past e) c.self.view_is ∙ c.requires in
    let r = c.make_room.new.self in
    let t = c.grow_lists.new.self in
    let u = c.grow_rows.new.self in
    let index : c.len-index.result ≡ length past = omega (arith, c.len-index.ensures, length-reverse es, ap length c.in_ok-reserve.ensures.items) in
    let f = same_rows l past c.self.inside.tables r c.in_ok-make_room.ensures.rows c.self.invariant.1 in
    let g : Follows l (e ∷ past) u = grown l past e c.len-index.result r t u index c.self.invariant.0 f c.in_ok-grow_lists.ensures.ok c.grow_rows.ensures in (
      legal_grows l es c.push_reserved.new.self.items e c.self.invariant.0 may_come items,
      subst (λ p. Follows l p c.shorten.new.self) (sym (ap reverse items ∙ reverse-append es (e ∷ []))) (c.shorten.ensures l (e ∷ past) g),
    )
