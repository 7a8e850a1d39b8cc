use Rattle.std.proofs.Common.{◌≡◌, ◌++◌, List, [], ◌∷◌, map, reverse, refl, sym, ap, ◌∙◌, subst}
use Rattle.std.specs.List.{All}
use Rattle.chorus_crew.specs.declared.job.Job.{Job}
use Rattle.chorus_crew.specs.Jobs.{IsPlain}
use Rattle.chorus_crew.proofs.Filling.{all_front, all_last}
use Rattle.chorus_crew.proofs.Ended.{takes-in-none, takes-in-more, turned-more}
use Rattle.chorus_crew.proofs.retiring.retire_jobs.Goals as goal

pub loop-job-init : goal.loop-job-init
loop-job-init c = record { ended = []; takes_in = takes-in-none c.args.nucleus.now c.args.pass.now c.requires.pass; all = refl; plain = c.requires.jobs }

pub loop-job-preserved : goal.loop-job-preserved
loop-job-preserved c =
    let i = c.loop-job.invariant in
    let P = λ (j : Job). IsPlain c.args.nucleus.now j.pass in
    let items : c.loop-job.jobs.items ≡ c.pop.new.self.items ++ c.in-Some.job ∷ [] = c.in-Some.ensures.items in
    let plain = subst (λ (l : List Job). All P l) items i.plain in
    record {
      ended = i.ended ++ c.in-Some.job.pass ∷ [];
      takes_in = takes-in-more c.args.nucleus.now c.args.pass.now c.loop-job.pass c.retire.new.into c.in-Some.job.pass i.ended i.takes_in (all_last P c.pop.new.self.items c.in-Some.job plain) c.retire.ensures;
      all = turned-more i.ended c.pop.new.self.items c.in-Some.job _ (ap (λ (l : List Job). i.ended ++ map (λ (j : Job). j.pass) (reverse l)) (sym items) ∙ i.all);
      plain = all_front P c.pop.new.self.items (c.in-Some.job ∷ []) plain;
    }
