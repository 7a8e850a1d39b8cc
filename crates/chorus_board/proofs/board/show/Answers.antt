use Rattle.chorus_board.proofs.Rules.{turns_after}
use Rattle.chorus_board.proofs.board.show.Goals as goal

pub publish_as-requires : goal.publish_as-requires
publish_as-requires g c next is = turns_after _ _ c.args.writer.desk.shown.value next _ is c.requires
