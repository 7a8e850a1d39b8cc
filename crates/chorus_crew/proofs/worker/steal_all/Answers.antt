use Rattle.std.proofs.Common.{◌≡◌, List, [], ◌∷◌, ◌++◌, ◌∙◌, arith, rules, ap, subst, sym}
use Rattle.std.specs.List.{All}
use Rattle.std.proofs.lemmas.List.Elements.{All-contains, All-push}
use Rattle.crossbeam_deque.specs.Handles.{view}
use Rattle.chorus_crew.specs.declared.job.Job.{Job}
use Rattle.chorus_crew.specs.declared.job.Done.{Done}
use Rattle.chorus_crew.specs.Jobs.{IsJobOf, IsDoneIn, done_indices}
use Rattle.chorus_crew.specs.Rule.{share}
use Rattle.chorus_crew.proofs.Deque.{takes, finds_few, took_one, done_more}
use Rattle.chorus_crew.specs.declared.rule.Share.{Share}
use Rattle.chorus_crew.proofs.worker.steal_all.Goals as goal

pub steal_as-requires-clause-takes : goal.steal_as-requires-clause-takes
steal_as-requires-clause-takes g c = let one = ap (λ (v : Share). v.parts) c.loop.invariant.view_is in takes _ _ (omega (arith, one))

pub steal_as-requires-clause-empty : goal.steal_as-requires-clause-empty
steal_as-requires-clause-empty g c = finds_few _ _ _ (ap (λ (v : Share). v.parts) c.loop.invariant.view_is)

pub perform-done-requires-after_bounds : goal.perform-done-requires-after_bounds
perform-done-requires-after_bounds g c κs within =
    let put : List Job = (view c.args.hand.now.hold).put in
    let t = took_one (view c.loop.hand.hold) (view c.steal_as.new.pass) put (done_indices c.loop.hand.done.items) c.in-Success.job c.loop.invariant.view_is c.in-Success.ensures.rule in
    All-contains (IsJobOf c.args.nucleus.now) put c.in-Success.job c.requires.jobs t.1

pub loop-preserved-in-Success : goal.loop-preserved-in-Success
loop-preserved-in-Success g c =
    let put : List Job = (view c.args.hand.now.hold).put in
    let old : List (Done g.row.F-State.Denot) = c.loop.hand.done.items in
    let t = took_one (view c.loop.hand.hold) (view c.steal_as.new.pass) put (done_indices old) c.in-Success.job c.loop.invariant.view_is c.in-Success.ensures.rule in
    let grown : c.push_reserved.new.self.items ≡ old ++ c.perform-done.result ∷ [] = c.push_reserved.ensures.items in
    let one : IsDoneIn (g.F.Fold.way c.args.fold.now) c.args.nucleus.now put c.perform-done.result = (c.in-Success.job, t.1, c.perform-done.ensures) in
    record {
      pass = search rules;
      view_is = t.0 ∙ done_more put old c.perform-done.result c.in-Success.job c.perform-done.ensures.index ∙ ap (λ (l : List (Done g.row.F-State.Denot)). share 1 put (done_indices l)) (sym grown);
      done = subst (λ (l : List (Done g.row.F-State.Denot)). All (IsDoneIn (g.F.Fold.way c.args.fold.now) c.args.nucleus.now put) l) (sym grown) (All-push (IsDoneIn (g.F.Fold.way c.args.fold.now) c.args.nucleus.now put) old c.perform-done.result c.loop.invariant.done one);
    }
