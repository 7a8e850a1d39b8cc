use Rattle.std.proofs.Common.{◌≡◌}
use Rattle.std.specs.List.{All}
use Rattle.crossbeam_deque.specs.Handles.{view, IsPassOf, stealer_deque}
use Rattle.chorus_crew.specs.Jobs.{IsDoneIn, done_indices}
use Rattle.chorus_crew.specs.Rule.{share}
use Rattle.chorus_crew.proofs.worker.steal_all.Given as goal

abbrev pub invariant-loop : goal.invariant-loop
invariant-loop g l = record {
  pass : IsPassOf (stealer_deque l.thief) l.hand.hold;
  view_is : view l.hand.hold ≡ share 1 (view l.fn.hand.hold).put (done_indices l.hand.done.items);
  done : All (IsDoneIn (g.F.Fold.way l.fold) l.nucleus (view l.fn.hand.hold).put) l.hand.done.items;
}
