use Rattle.std.proofs.Common.{rules, ◌+◌, ◌%◌, ◌∷◌, [], ◌++◌, ap, sym, ◌∙◌, subst}
use Rattle.chorus_world.specs.Places.{farther}
use Rattle.chorus_board.specs.Boards.{layout_of}
use Rattle.chorus_board.specs.Located.{located_after, told_of, IsOfPlace}
use Rattle.tests_turns.specs.Moves.{departures}
use Rattle.tests_turns.proofs.Departures.{next_entry, next_departures, length_departures, departures_clock, departures_of_place, departures_located}
use Rattle.tests_turns.proofs.boards.publish_next.Goals as goal

pub publish-requires : goal.publish-requires
publish-requires g c =
    let n = c.args.count in
    let next = next_entry c.args.port n ∷ [] in
    record {
      may = record {
        port = search rules;
        in_layout = search rules;
        longer = (next, ap (λ log. log ++ next) c.requires.so_far.0 ∙ sym (next_departures c.args.port n));
        count = sym (length_departures c.args.port (n + 1));
        last = departures_clock c.args.port n;
        of_place = subst (λ p. IsOfPlace p (departures c.args.port (n + 1))) (sym c.requires.so_far.2) (departures_of_place c.args.port (n + 1));
        located = λ q here. ap (λ log. farther (located_after (layout_of c.args.board.now) log q) (told_of q c.args.port ((n + 1) % 2 + 1) (n + 1))) c.requires.so_far.1
            ∙ departures_located (layout_of c.args.board.now) c.args.port n q;
      };
    }
