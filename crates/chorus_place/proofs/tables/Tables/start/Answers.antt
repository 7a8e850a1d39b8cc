use Rattle.std.proofs.Common.{ap, refl, ◌∙◌, length, ◌+◌, [], arith}
use Rattle.std.proofs.lemmas.List.{length-replicate}
use Rattle.chorus_place.proofs.PlaceTables.States.{same_place}
use Rattle.chorus_place.proofs.PlaceTables.Kept.{kept-start}
use Rattle.chorus_place.proofs.tables.Tables.start.Goals as goal

pub invariant_of-result : goal.invariant_of-result
invariant_of-result c =
    let none = ap (λ xs. length xs) c.new-3.ensures.items in
    let zero = c.in_ok-with_places.ensures.puts in (
      c.in_ok-with_room.ensures.layout,
      record {
        lists = ap (λ ls. length ls) c.in_ok-with_places.ensures.lists ∙ length-replicate (c.places.result + 1) [] ∙ ap (λ n. n + 1) c.places.ensures.value;
        room = omega (arith, none);
      },
      kept-start c.args.layout c.args.number _ _ _ _ _ c.requires c.in_ok-with_room.ensures.past (ap (λ t. t.records) c.in_ok-with_room-2.ensures)
          c.in_ok-with_room-3.ensures.layout c.in_ok-with_room-3.ensures.nothing c.new.ensures c.new-3.ensures.items,
      omega (arith, none, zero),
    )

pub returns-clause-state : goal.returns-clause-state
returns-clause-state c =
    same_place _ _ refl refl c.in_ok-with_room.ensures.past (ap (λ t. t.records) c.in_ok-with_room-2.ensures) c.in_ok-with_room-3.ensures.nothing c.new.ensures
    c.new-2.ensures
