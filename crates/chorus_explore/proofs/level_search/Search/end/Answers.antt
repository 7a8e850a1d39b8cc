use Rattle.std.proofs.Common.{◌++◌, ◌∷◌, [], refl, ◌∙◌, ap}
use Rattle.chorus_explore.specs.Stages.{moves_of}
use Rattle.chorus_explore.proofs.Searching.{ended}
use Rattle.chorus_explore.proofs.Spares.{given-back}
use Rattle.chorus_explore.proofs.level_search.Search.end.Goals as goal

pub returns-clause-ready : goal.returns-clause-ready
returns-clause-ready c =
    let scene = c.args.scenario.now in
    record {
      classes = c.requires.ready.classes;
      sums = c.in_ok-sites.ensures.sums;
      last = c.requires.ready.last;
      spare = given-back scene c.args.self.now.spare.items c.push_reserved.new.self.items c.in_ok-sites.sites
          (c.push_reserved.ensures.items ∙ ap (λ xs. xs ++ c.in_ok-sites.sites ∷ []) c.in_ok-reserve.ensures.items) c.requires.ready.spare c.in_ok-sites.ensures.fresh;
    }

pub returns-clause-come : goal.returns-clause-come
returns-clause-come c = λ n m is.
    ended c.args.scenario.now c.args.asked.now n c.args.self.now _ (moves_of c.args.stage) c.args.number m is c.requires.end
    c.in_ok-sites.ensures.counts c.in_ok-judge_end.ensures c.saturating_add-self.ensures refl refl refl refl
