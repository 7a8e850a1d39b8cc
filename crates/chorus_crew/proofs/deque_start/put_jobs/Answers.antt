use Rattle.std.proofs.Common.{◌≡◌, ◌+◌, List, [], ◌∷◌, ◌++◌, arith, refl, rules, ap, subst, sym, ◌∙◌}
use Rattle.crossbeam_deque.specs.Handles.{worker_view}
use Rattle.chorus_crew.specs.declared.job.Job.{Job}
use Rattle.chorus_crew.specs.declared.rule.Share.{Share}
use Rattle.chorus_crew.specs.Deals.{IsDealt}
use Rattle.chorus_crew.proofs.Deque.{puts, dealt_start, dealt_put, dealt_refused}
use Rattle.chorus_crew.proofs.deque_start.put_jobs.Goals as goal

pub loop-job-init : goal.loop-job-init
loop-job-init c = record {
  deque = refl;
  flavor = refl;
  room = let r = c.requires.room.1 in let n = ap Rattle.std.proofs.Common.length c.requires.room.0 in grind (arith, r, n);
  dealt = dealt_start c.args.jobs.now.items (worker_view c.args.owner.now) c.args.refused.now.items c.requires.view c.requires.room.0;
}

pub loop-job-preserved-in-Ok : goal.loop-job-preserved-in-Ok
loop-job-preserved-in-Ok c =
    let d = subst (λ (l : List Job). IsDealt c.args.jobs.now.items (worker_view c.loop-job.owner) c.loop-job.refused.items l) c.in-Some.ensures.items c.loop-job.invariant.dealt in
    record {
      deque = search rules;
      flavor = search rules;
      room = let r = c.loop-job.invariant.room in let n = c.in-Some.ensures.len in omega (arith, r, n);
      dealt = dealt_put c.args.jobs.now.items (worker_view c.loop-job.owner) (worker_view c.push_as.new.self) c.loop-job.refused.items c.pop.new.self.items c.in-Some.job d c.in-Ok.ensures.rule.0;
    }

pub loop-job-preserved : goal.loop-job-preserved
loop-job-preserved c =
    let d = subst (λ (l : List Job). IsDealt c.args.jobs.now.items (worker_view c.loop-job.owner) c.loop-job.refused.items l) c.in-Some.ensures.items c.loop-job.invariant.dealt in
    let e : c.in-Err.job ≡ c.in-Some.job = c.in-Err.ensures.rule.0 in
    let same : worker_view c.push_as.new.self ≡ worker_view c.loop-job.owner = c.in-Err.ensures.rule.1 in
    let grown : c.push_reserved.new.self.items ≡ c.loop-job.refused.items ++ c.in-Some.job ∷ [] = c.push_reserved.ensures.items ∙ ap (λ (j : Job). c.loop-job.refused.items ++ j ∷ []) e in
    record {
      deque = search rules;
      flavor = search rules;
      room = let r = c.loop-job.invariant.room in let n = c.in-Some.ensures.len in let m = c.push_reserved.ensures.len in let k = c.push_reserved.ensures.capacity in omega (arith, r, n, m, k);
      dealt = subst (λ (x : Share × List Job). IsDealt c.args.jobs.now.items x.0 x.1 c.pop.new.self.items) (λ i. (sym same i, sym grown i))
          (dealt_refused c.args.jobs.now.items (worker_view c.loop-job.owner) c.loop-job.refused.items c.pop.new.self.items c.in-Some.job d);
    }

pub push_as-requires-clause-pushes : goal.push_as-requires-clause-pushes
push_as-requires-clause-pushes c = puts _ _ _ c.loop-job.invariant.dealt.parts
