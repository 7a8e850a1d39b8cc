use Rattle.std.proofs.Common.{ap, ◌∙◌, [], length, arith}
use Rattle.std.proofs.lemmas.List.Elements.{All-nil, All-same}
use Rattle.chorus_place.specs.PlaceTables.Tables.{GoesTo}
use Rattle.chorus_place.proofs.PlaceTables.SentPackets.{all-places, places-for}
use Rattle.chorus_place.proofs.tables.Tables.send_out.Goals as goal

pub move_all-requires-clause-places : goal.move_all-requires-clause-places
move_all-requires-clause-places c = places-for c.self.inside.layout c.self.inside.puts.items c.self.inside.out c.self.invariant.1 c.self.invariant.2.sent

pub invariant_of-self : goal.invariant_of-self
invariant_of-self c =
    let i = c.self.inside in
    let kept = c.self.invariant.2 in
    let none = ap (λ xs. length xs) c.move_all.ensures.none in
    let count = c.move_all.ensures.count in
    let before = c.self.invariant.3 in (
      c.self.invariant.0,
      record {
        lists = ap (λ ls. length ls) c.move_all.ensures.lists ∙ all-places i.puts.items i.out.lists ∙ c.self.invariant.1.lists;
        room = omega (arith, none);
      },
      record {
        place = kept.place;
        held = kept.held;
        layout = kept.layout;
        located = kept.located;
        waiting = kept.waiting;
        numbered = kept.numbered;
        grouped = kept.grouped;
        sent = All-same (GoesTo i.layout) c.move_all.new.puts.items [] c.move_all.ensures.none (All-nil (GoesTo i.layout));
      },
      omega (arith, none, count, before),
    )

pub move_all-requires-clause-count : goal.move_all-requires-clause-count
move_all-requires-clause-count c =
    let before = c.self.invariant.3 in
    let clock = c.clock.ensures in
    omega (arith, before, clock)
