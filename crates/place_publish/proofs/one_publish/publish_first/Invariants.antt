use Rattle.std.proofs.Common.{take}
use Rattle.place_publish.proofs.one_publish.publish_first.Given as goal

abbrev pub ghosts-publish_as : goal.ghosts-publish_as
ghosts-publish_as g a = record { entries = take a.upto a.journal.now }
