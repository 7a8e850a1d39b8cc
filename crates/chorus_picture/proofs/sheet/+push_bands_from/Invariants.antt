use Rattle.chorus_picture.proofs.sheet.+push_bands_from.Given as goal

abbrev pub decreases-push_bands_from : goal.decreases-push_bands_from
decreases-push_bands_from l = l.more
