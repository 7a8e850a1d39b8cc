use Rattle.std.proofs.Common.{rules}
use Rattle.chorus_turn.specs.Journals.{IsJournal}
use Rattle.chorus_turn.specs.Calls.{IsMarked}
use Rattle.chorus_turn.proofs.Splits.{leaves}
use Rattle.chorus_turn.proofs.turns.Turns.leave.Goals as goal

pub split_seat-requires : goal.split_seat-requires
split_seat-requires g c = (c.requires, search rules, leaves (IsJournal g.S.Kept.entries g.S.Kept.fits) (IsMarked g.S.Kept.mark c.args.self.now.table.shared.key.value.items) _ _)
