use Rattle.chorus_world.specs.DecisionLaws.{AnswersNewer, ElsewhereNamesPath, StaleNamesLater}
use Rattle.chorus_world.proofs.Messages.Decided.{answers_newer, elsewhere_names_path, stale_names_later}
use Rattle.chorus_world.proofs.Moments.{layout-entries}
use Rattle.chorus_world.proofs.laws.stale_names_a_later_place.Goals as goal

pub returns : goal.returns
returns c =
    record {
      stale = layout-entries StaleNamesLater stale_names_later;
      elsewhere = layout-entries ElsewhereNamesPath elsewhere_names_path;
      newer = layout-entries AnswersNewer answers_newer;
    }
