use Rattle.std.proofs.Common.{rules, ◌++◌, ap, sym, ◌∙◌, subst}
use Rattle.chorus_world.specs.Places.{farther}
use Rattle.chorus_board.specs.Boards.{layout_of}
use Rattle.chorus_board.specs.Located.{located_after, told_of, IsOfPlace}
use Rattle.tests_turns.specs.Moves.{departure}
use Rattle.tests_turns.proofs.Departures.{departure_clock, departure_located, departure_of_place}
use Rattle.tests_turns.proofs.boards.publish_departure.Goals as goal

pub publish-requires : goal.publish-requires
publish-requires g c =
    let all = departure c.args.port c.args.place c.args.hop in
    record {
      may = record {
        port = search rules;
        in_layout = search rules;
        longer = (all, ap (λ log. log ++ all) c.requires.new.3);
        count = search rules;
        last = departure_clock c.args.port c.args.place c.args.hop;
        of_place = subst (λ p. IsOfPlace p all) (sym c.requires.new.1) (departure_of_place c.args.port c.args.place c.args.hop);
        located = λ q here. ap (λ log. farther (located_after (layout_of c.args.board.now) log q) (told_of q c.args.port c.args.place c.args.hop)) c.requires.new.2
            ∙ departure_located (layout_of c.args.board.now) c.args.port c.args.place c.args.hop q;
      };
    }
