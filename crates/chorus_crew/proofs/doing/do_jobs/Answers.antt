use Rattle.std.proofs.Common.{◌≡◌, ◌<◌, List, length, ap, subst, sym, ◌∙◌}
use Rattle.std.specs.List.{All}
use Rattle.std.proofs.lemmas.List.{with_items_is}
use Rattle.crossbeam_deque.specs.Handles.{worker_deque, worker_view, stealer_deque, view}
use Rattle.chorus_crew.specs.declared.job.Job.{Job}
use Rattle.chorus_crew.specs.declared.rule.Share.{Share}
use Rattle.chorus_crew.specs.declared.worker.Hand.{Hand}
use Rattle.chorus_crew.specs.Jobs.{IsJobOf, indices}
use Rattle.chorus_crew.specs.Deals.{AreReady}
use Rattle.chorus_crew.specs.Hands.{Begins, Ends, AreSlots}
use Rattle.chorus_crew.proofs.Collecting.{all-of, numbers-within, begins-all, ends-all, slots-none, slots-all, collected}
use Rattle.chorus_crew.proofs.doing.do_jobs.Goals as goal

-- The workers begin: each job that was put is one of all jobs.
pub all_steal-requires-clause-begins : goal.all_steal-requires-clause-begins
all_steal-requires-clause-begins g c κs within =
    let n = c.args.nucleus in
    let put : List Job = (worker_view c.put_jobs.new.owner).put in
    let thief = stealer_deque c.args.tools.thief in
    subst (λ (l : List (Hand g.row.F-State.Denot)). All (λ (h : Hand g.row.F-State.Denot). Begins thief n.now (view h.hold).put h) l) (sym c.as_mut_slice.ensures.value)
    (begins-all (worker_deque c.put_jobs.new.owner) thief n.now put c.give_passes.new.hands.items
    (c.requires.tools.thief ∙ sym c.put_jobs.ensures.deque.0)
    (all-of (IsJobOf n.now) c.args.tools.jobs.items put c.requires.jobs c.put_jobs.ensures.dealt.put) c.give_passes.ensures.hands)

-- They end: what each did is of the jobs that were put.
pub take_in-requires-clause-hands : goal.take_in-requires-clause-hands
take_in-requires-clause-hands g c κs within =
    let V = g.F.Fold.way c.args.fold.now in
    let n = c.args.nucleus.now in
    let put : List Job = (worker_view c.put_jobs.new.owner).put in
    let same : stealer_deque c.args.tools.thief ≡ worker_deque c.put_jobs.new.owner = c.requires.tools.thief ∙ sym c.put_jobs.ensures.deque.0 in
    let ready = subst (AreReady (worker_deque c.put_jobs.new.owner) put) (sym c.as_mut_slice.ensures.value) c.give_passes.ensures.hands in
    let all = ends-all V n (worker_deque c.put_jobs.new.owner) (stealer_deque c.args.tools.thief) put c.as_mut_slice.result.now c.all_steal.new.hands
    same ready c.all_steal.ensures.count c.all_steal.ensures.ends in
    let kept : put ≡ (worker_view c.give_passes.new.owner).put = sym (ap (λ (v : Share). v.put) c.give_passes.ensures.view.0) in
    let written = with_items_is c.give_passes.new.hands c.all_steal.new.hands (c.all_steal.ensures.count ∙ c.as_mut_slice.ensures.len) in
    subst (λ (l : List (Hand g.row.F-State.Denot)). All (λ (h : Hand g.row.F-State.Denot). Ends V (worker_deque c.give_passes.new.owner) n (worker_view c.give_passes.new.owner).put h) l) (sym written)
    (subst (λ d. All (λ (h : Hand g.row.F-State.Denot). Ends V d n (worker_view c.give_passes.new.owner).put h) c.all_steal.new.hands) (sym c.give_passes.ensures.deque.0)
    (subst (λ (l : List Job). All (λ (h : Hand g.row.F-State.Denot). Ends V (worker_deque c.put_jobs.new.owner) n l h) c.all_steal.new.hands) kept all))

pub take_in-requires-clause-numbers : goal.take_in-requires-clause-numbers
take_in-requires-clause-numbers g c κs within =
    let put : List Job = (worker_view c.put_jobs.new.owner).put in
    let kept : put ≡ (worker_view c.give_passes.new.owner).put = sym (ap (λ (v : Share). v.put) c.give_passes.ensures.view.0) in
    let P = λ (j : Job). j.index < length c.args.tools.slots.items in
    subst (λ (l : List Job). All P l) kept (all-of P c.args.tools.jobs.items put (numbers-within c.args.tools.jobs.items (length c.args.tools.slots.items) c.requires.numbers c.requires.tools.slots) c.put_jobs.ensures.dealt.put)

pub take_in-requires-clause-slots : goal.take_in-requires-clause-slots
take_in-requires-clause-slots g c κs within =
    slots-none (g.F.Fold.way c.args.fold.now) c.args.nucleus.now (worker_view c.give_passes.new.owner).put (worker_view c.give_passes.new.owner).taken c.args.tools.slots.items
    (ap (λ (v : Share). v.taken) c.give_passes.ensures.view.0 ∙ c.put_jobs.ensures.dealt.none) c.requires.tools.none

pub do_left-requires-clause-jobs : goal.do_left-requires-clause-jobs
do_left-requires-clause-jobs g c κs within =
    let n = c.args.nucleus.now in
    let put : List Job = (worker_view c.put_jobs.new.owner).put in
    let kept : put ≡ (worker_view c.take_in.new.owner).put = sym (c.take_in.ensures.parts.put ∙ ap (λ (v : Share). v.put) c.give_passes.ensures.view.0) in
    subst (λ (l : List Job). All (IsJobOf n) l) kept (all-of (IsJobOf n) c.args.tools.jobs.items put c.requires.jobs c.put_jobs.ensures.dealt.put)

pub do_left-requires-clause-numbers : goal.do_left-requires-clause-numbers
do_left-requires-clause-numbers g c κs within =
    let put : List Job = (worker_view c.put_jobs.new.owner).put in
    let kept : put ≡ (worker_view c.take_in.new.owner).put = sym (c.take_in.ensures.parts.put ∙ ap (λ (v : Share). v.put) c.give_passes.ensures.view.0) in
    let P = λ (j : Job). j.index < length c.take_in.new.slots.items in
    subst (λ (l : List Job). All P l) kept (all-of P c.args.tools.jobs.items put (numbers-within c.args.tools.jobs.items (length c.take_in.new.slots.items) c.requires.numbers (c.take_in.ensures.count ∙ c.requires.tools.slots)) c.put_jobs.ensures.dealt.put)

pub do_left-requires-clause-slots : goal.do_left-requires-clause-slots
do_left-requires-clause-slots g c κs within =
    subst (λ (l : List Job). AreSlots (g.F.Fold.way c.args.fold.now) c.args.nucleus.now l (worker_view c.take_in.new.owner).taken c.take_in.new.slots.items) (sym c.take_in.ensures.parts.put) c.take_in.ensures.slots

pub do_refused-requires-clause-jobs : goal.do_refused-requires-clause-jobs
do_refused-requires-clause-jobs g c κs within =
    all-of (IsJobOf c.args.nucleus.now) c.args.tools.jobs.items c.put_jobs.new.refused.items c.requires.jobs c.put_jobs.ensures.dealt.kept

pub do_refused-requires-clause-numbers : goal.do_refused-requires-clause-numbers
do_refused-requires-clause-numbers g c κs within =
    let P = λ (j : Job). j.index < length c.do_left.new.slots.items in
    all-of P c.args.tools.jobs.items c.put_jobs.new.refused.items
    (numbers-within c.args.tools.jobs.items (length c.do_left.new.slots.items) c.requires.numbers (c.do_left.ensures.count ∙ c.take_in.ensures.count ∙ c.requires.tools.slots)) c.put_jobs.ensures.dealt.kept

-- Each job is in the slot of its number.
pub returns : goal.returns
returns g c =
    let V = g.F.Fold.way c.args.fold.now in
    let n = c.args.nucleus.now in
    let jobs : List Job = c.args.tools.jobs.items in
    let v : Share = worker_view c.put_jobs.new.owner in
    let kept : (worker_view c.take_in.new.owner).put ≡ v.put = c.take_in.ensures.parts.put ∙ ap (λ (w : Share). w.put) c.give_passes.ensures.view.0 in
    let left : AreSlots V n v.put (indices v.put) c.do_left.new.slots.items =
    subst (λ (l : List Job). AreSlots V n l (indices l) c.do_left.new.slots.items) kept c.do_left.ensures.slots in
    let all = slots-all V n jobs c.put_jobs.new.refused.items v c.do_left.new.slots.items c.do_refused.new.slots.items c.put_jobs.ensures.dealt left
    (λ s. c.do_refused.ensures.slots jobs (indices v.put) c.put_jobs.ensures.dealt.kept s) in
    collected V n jobs c.do_refused.new.slots.items c.requires.numbers
    (c.do_refused.ensures.count ∙ c.do_left.ensures.count ∙ c.take_in.ensures.count ∙ c.requires.tools.slots) all
