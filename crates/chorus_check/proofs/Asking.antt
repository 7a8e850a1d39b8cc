-- What was found of claims, whatever schedules they were asked of.
-- c is a scenario, ks are its claims, e is what was found.
use Rattle.std.proofs.Common.{◌≡◌, List, length, map, Result, Ok, Err, IfOk, sym, ◌∙◌, ap}
use Rattle.std.proofs.lemmas.List.{length-map}
use Rattle.chorus_claims.specs.Pieces.{Claim}
use Rattle.chorus_scene.specs.Scene.{Scene}
use Rattle.explore_report.specs.declared.explored.Explored.{Explored}
use Rattle.chorus_explore.specs.declared.exploration.ExploreFault.{ExploreFault}
use Rattle.chorus_explore.specs.Checked.{facts_behind, facts_in, verdict_of, verdicts_of}
use Rattle.chorus_explore.specs.Drawn.{drawn_verdict}
use Rattle.chorus_check.specs.declared.schedules.Schedules.{Schedules}
use Rattle.chorus_check.specs.declared.schedules.Schedules.TheVariants.{All, Drawn}
use Rattle.chorus_check.specs.Ends.{AreChecked}

module _ (c : Scene) (ks : List Claim) (asked : Schedules) where
  many : (by : Schedules) (e : Explored) → AreChecked c ks by e → length e.judged.items ≡ length ks
  many (All most) e is = sym (length-map e.judged.items (verdict_of e)) ∙ is.many
  many (Drawn count first) e is =
      sym (length-map e.judged.items (verdict_of e)) ∙ ap length is.verdicts ∙ length-map ks (drawn_verdict c count first)

  pub as-many : (r : Result Explored ExploreFault) → IfOk r (λ e. AreChecked c ks asked e) → IfOk r (λ e. length e.judged.items ≡ length ks)
  as-many (Ok e) is = many asked e is
  as-many (Err fault) is = tt

pub lead : (c : Scene) (ks : List Claim) (asked : Schedules) (e : Explored) → AreChecked c ks asked e → map facts_in e.judged.items ≡ map (facts_behind c) (verdicts_of e)
lead c ks (All most) e is = is.facts
lead c ks (Drawn count first) e is = is.facts
