use Rattle.std.proofs.Common.{◌≡◌, take, reverse}
use Rattle.chorus_world.specs.Views.{by}
use Rattle.chorus_world.specs.Posts.{posted_in, source}
use Rattle.law_machine.specs.Outcomes.{answer_for}
use Rattle.chorus_place.specs.Outcomes.{goes_to}
use Rattle.chorus_place.proofs.journal_outcome.read.Given as goal

abbrev pub invariant-loop-entry : goal.invariant-loop-entry
invariant-loop-entry l =
    (l.dest ≡ goes_to (posted_in (source l.id) (by l.id.seat (reverse (take l.entry-index l.entries)))))
    × (l.post ≡ answer_for (source l.id) (reverse (take l.entry-index l.entries)))
    × (l.own ≡ answer_for l.id (reverse (take l.entry-index l.entries)))
