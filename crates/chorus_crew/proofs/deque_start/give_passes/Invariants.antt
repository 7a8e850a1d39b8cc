use Rattle.std.proofs.Common.{◌≡◌, ◌+◌, ◌≤◌, [], vec_len, vec_capacity}
use Rattle.std.specs.List.{All}
use Rattle.crossbeam_deque.specs.Handles.{worker_deque, worker_flavor, worker_view}
use Rattle.chorus_crew.specs.Deals.{AreReady}
use Rattle.chorus_crew.specs.Rule.{share}
use Rattle.chorus_crew.proofs.deque_start.give_passes.Given as goal

abbrev pub invariant-loop-done : goal.invariant-loop-done
invariant-loop-done g l = record {
  deque : worker_deque l.owner ≡ worker_deque l.fn.owner;
  flavor : worker_flavor l.owner ≡ worker_flavor l.fn.owner;
  view_is : worker_view l.owner ≡ share (worker_view l.owner).parts (worker_view l.fn.owner).put (worker_view l.fn.owner).taken;
  parts : (worker_view l.owner).parts + vec_len l.fn.rooms ≡ (worker_view l.fn.owner).parts + vec_len l.rooms;
  room : vec_len l.rooms + vec_len l.hands ≤ vec_capacity l.hands;
  count : vec_len l.rooms + vec_len l.hands ≡ vec_len l.fn.rooms;
  empty : All (λ room. room.items ≡ []) l.rooms.items;
  ready : AreReady (worker_deque l.fn.owner) (worker_view l.fn.owner).put l.hands.items;
}

abbrev pub decreases-loop-done : goal.decreases-loop-done
decreases-loop-done g l = goal.left-loop-done g l
