use Rattle.chorus_world.proofs.Sorted.Observers.{sorts_legally}
use Rattle.chorus_world.proofs.Sorted.Holders.{sorts_runs}
use Rattle.chorus_world.proofs.sorting.sorting_is_legal.Goals as goal

pub returns : goal.returns
returns c = record { legal = sorts_legally; runs = sorts_runs }
