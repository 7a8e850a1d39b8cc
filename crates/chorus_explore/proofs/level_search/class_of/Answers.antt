use Rattle.std.proofs.Common.{List, length, reverse, refl, ap, subst, arith}
use Rattle.std.proofs.lemmas.Option.{slice_get_read}
use Rattle.law_explore.specs.declared.moves.Move.{Move}
use Rattle.law_explore.specs.Merging.{ComeToldAlike}
use Rattle.law_replay.specs.Shown.{race_of}
use Rattle.chorus_explore.specs.Stages.{moves_of}
use Rattle.chorus_explore.specs.Tellings.{tells_of}
use Rattle.chorus_explore.proofs.level_search.class_of.Goals as goal

pub returns-then-branch-clause-some : goal.returns-then-branch-clause-some
returns-then-branch-clause-some c =
    record {
      class = c.index-classes-index.result;
      stands = slice_get_read c.args.classes.now (length c.args.classes.now) c.loop-index.index c.index-classes-index.result refl c.loop-index-test.true c.index-classes-index.is;
      alike =
          subst (λ (ms : List Move). ComeToldAlike (tells_of c.args.stage.now.asks) (race_of c.args.scenario.now) ms (moves_of c.args.stage.now)) (ap reverse c.deref.ensures.value)
          (c.in_ok-lead_to_alike.ensures.alike (grind (arith, c.if-branch.true)));
    }
