use Rattle.std.proofs.Common.{sym, subst, rules}
use Rattle.chorus_board.specs.Table.{Fine}
use Rattle.chorus_board.proofs.board.show_in.Goals as goal

pub returns-clause-settled : goal.returns-clause-settled
returns-clause-settled g c =
    record {
      fine = subst Fine (sym c.replace_with.ensures.0.0) c.requires.0;
      none_pending = search rules;
      knows = search rules;
    }
