use Rattle.std.proofs.Common.{◌≡◌, ◌+◌, ◌≤◌, vec_len, vec_capacity}
use Rattle.crossbeam_deque.specs.Handles.{worker_deque, worker_flavor, worker_view}
use Rattle.chorus_crew.specs.Deals.{IsDealt}
use Rattle.chorus_crew.proofs.deque_start.put_jobs.Given as goal

abbrev pub invariant-loop-job : goal.invariant-loop-job
invariant-loop-job l = record {
  deque : worker_deque l.owner ≡ worker_deque l.fn.owner;
  flavor : worker_flavor l.owner ≡ worker_flavor l.fn.owner;
  room : vec_len l.jobs + vec_len l.refused ≤ vec_capacity l.refused;
  dealt : IsDealt l.fn.jobs.items (worker_view l.owner) l.refused.items l.jobs.items;
}

abbrev pub decreases-loop-job : goal.decreases-loop-job
decreases-loop-job l = goal.left-loop-job l
