use Rattle.chorus_world.proofs.Sorted.Exchange.{keeps_views, sorts_in_order}
use Rattle.chorus_world.proofs.sorting.sorting_keeps_views.Goals as goal

pub returns : goal.returns
returns c = record { views = keeps_views; in_order = sorts_in_order }
