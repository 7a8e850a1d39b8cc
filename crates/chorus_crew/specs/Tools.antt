-- What a crew takes memory for.
use Rattle.std.specs.Prelude.{ℕ, ◌≡◌, ◌<◌, ◌≤◌, Option, None, [], length, vec_capacity}
use Rattle.std.specs.List.{All}
use Rattle.std.specs.Global.{Vec}
use Rattle.crossbeam_deque.specs.Handles.{worker_deque, worker_flavor, worker_view, stealer_deque}
use Rattle.chorus_crew.specs.declared.job.Done.{Done}
use Rattle.chorus_crew.specs.declared.folding.Folded.{Folded}
use Rattle.chorus_crew.specs.declared.tools.Tools.{Tools}
use Rattle.chorus_crew.specs.Rule.{share}

-- for so many jobs and workers, and nothing is in them but, it may be, jobs
pub record AreToolsFor {S : Type 0} (count workers : ℕ) (t : Tools S) : Type 0 where
  pub view_is : worker_view t.owner ≡ share 1024 [] []
  pub flavor : worker_flavor t.owner ≡ 0
  pub thief : stealer_deque t.thief ≡ worker_deque t.owner
  pub rooms : length t.rooms.items ≡ workers
  pub empty : All (λ (room : Vec (Done S)). room.items ≡ []) t.rooms.items
  pub hands : (t.hands.items ≡ []) × (workers ≤ vec_capacity t.hands)
  pub refused : (t.refused.items ≡ []) × (count ≤ vec_capacity t.refused)
  pub slots : length t.slots.items ≡ count
  pub none : All (λ (s : Option (Done S)). s ≡ None) t.slots.items

pub record AreTools {S : Type 0} (count workers : ℕ) (t : Tools S) : Type 0 where
  pub tools : AreToolsFor count workers t
  pub jobs : (t.jobs.items ≡ []) × (count ≤ vec_capacity t.jobs)

-- so many workers, from 1 to 16, with tools for so many jobs, and room for what is handled, of which nothing is there
pub record IsEquipped {S : Type 0} (count workers : ℕ) (t : Tools S) (folded : Vec (Folded S)) : Type 0 where
  pub few : (0 < workers) × (workers ≤ 16)
  pub tools : AreTools count workers t
  pub room : (folded.items ≡ []) × (count ≤ vec_capacity folded)

-- for the jobs that are in them
abbrev pub AreReadyTools : {S : Type 0} → ℕ → Tools S → Type 0
AreReadyTools workers t = AreToolsFor (length t.jobs.items) workers t
