use Rattle.chorus_merge.proofs.Places.{keeps_places, gives_journals_back}
use Rattle.chorus_merge.proofs.laws.merge_keeps_places.Goals as goal

pub returns : goal.returns
returns c = record { places = keeps_places; journals = gives_journals_back }
