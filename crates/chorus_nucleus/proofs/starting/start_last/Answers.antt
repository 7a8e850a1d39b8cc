use Rattle.std.proofs.Common.{rules}
use Rattle.chorus_nucleus.proofs.starting.start_last.Goals as goal

pub returns : goal.returns
returns g c =
    let desk = c.in_ok-desk.ensures in
    let board = c.in_ok-board.ensures in
    record {
      last = c.in-Some.end;
      items = search rules;
      fresh = record {
        state = desk.state;
        out = desk.out;
        its_ends = desk.ends;
        hand = desk.hand;
        puts = desk.puts;
        worked = desk.worked;
        board = board.board;
      };
      readers = record { count = board.count; new = board.readers; room = search rules };
    }
