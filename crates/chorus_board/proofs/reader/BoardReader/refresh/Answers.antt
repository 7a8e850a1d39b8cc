use Rattle.chorus_board.proofs.Rules.{reads}
use Rattle.chorus_board.proofs.reader.BoardReader.refresh.Goals as goal

pub enter_as-requires : goal.enter_as-requires
enter_as-requires c = reads _ _
