use Rattle.std.proofs.Common.{length}
use Rattle.picture_texts.proofs.filling.+push_markup.Given as goal

abbrev pub decreases-push_markup : goal.decreases-push_markup
decreases-push_markup l = length l.text.now
