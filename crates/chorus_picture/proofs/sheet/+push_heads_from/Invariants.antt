use Rattle.chorus_picture.proofs.sheet.+push_heads_from.Given as goal

abbrev pub decreases-push_heads_from : goal.decreases-push_heads_from
decreases-push_heads_from l = l.more
