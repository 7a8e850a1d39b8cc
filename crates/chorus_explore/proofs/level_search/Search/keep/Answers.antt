use Rattle.std.proofs.Common.{◌≡◌, ◌++◌, ◌∷◌, [], refl, sym, ◌∙◌, ap, subst}
use Rattle.chorus_scene.specs.Scene.{Scene}
use Rattle.explore_report.specs.declared.explored.Explored.{Explored}
use Rattle.explore_report.specs.Findings.{HaveSums}
use Rattle.chorus_explore.specs.declared.level_search.Search.{Search}
use Rattle.chorus_explore.specs.Classes.{AreClasses}
use Rattle.chorus_explore.specs.Stages.{AreSpare, IsReached, IsReachedIf}
use Rattle.chorus_explore.proofs.Spares.{given-back}
use Rattle.chorus_explore.proofs.level_search.Search.keep.Goals.{After-push_reserved, then-is_last, else-is_last}
use Rattle.chorus_explore.proofs.level_search.Search.keep.Goals as goal

same-but-last : (c : After-push_reserved) → (c.if-is_last.self.explored ≡ c.args.self.now.explored) × (c.if-is_last.self.next ≡ c.args.self.now.next) × (c.if-is_last.self.spare ≡ c.args.self.now.spare)
same-but-last c =
    elim c.if-is_last.branch [
      | then-is_last w ↦ (ap (λ (s : Search). s.explored) w.self-is, ap (λ (s : Search). s.next) w.self-is, ap (λ (s : Search). s.spare) w.self-is)
      | else-is_last w ↦ (ap (λ (s : Search). s.explored) w.self-is, ap (λ (s : Search). s.next) w.self-is, ap (λ (s : Search). s.spare) w.self-is)
    ]

both-reached : (c : After-push_reserved) (scene : Scene) → IsReached scene c.args.stage → IsReachedIf c.args.stage.asks scene c.args.self.now.last
    → IsReachedIf c.args.stage.asks scene c.if-is_last.used × IsReachedIf c.args.stage.asks scene c.if-is_last.self.last
both-reached c scene reached last =
    elim c.if-is_last.branch [
      | then-is_last w ↦
          (subst (IsReachedIf c.args.stage.asks scene) (sym (w.used-is ∙ w.replace-used.ensures.value)) last, subst (λ (s : Search). IsReachedIf c.args.stage.asks scene s.last) (sym w.self-is) (subst (IsReachedIf c.args.stage.asks scene) (sym w.replace-used.ensures.after) (reached, refl)))
      | else-is_last w ↦
          (subst (IsReachedIf c.args.stage.asks scene) (sym w.used-is) (reached, refl), subst (λ (s : Search). IsReachedIf c.args.stage.asks scene s.last) (sym w.self-is) last)
    ]

pub returns-in_ok-reserve-clause-ready : goal.returns-in_ok-reserve-clause-ready
returns-in_ok-reserve-clause-ready c = λ scene reached ready.
    let same = same-but-last c in
    let both = both-reached c scene reached ready.last in
    let used = subst (IsReachedIf c.args.stage.asks scene) c.in-Some.is both.0 in
    record {
      classes = subst (λ v. AreClasses scene v.items) (sym same.1) ready.classes;
      sums = subst (λ (e : Explored). HaveSums e.findings.items.items) (sym same.0) ready.sums;
      last = both.1;
      spare = given-back scene c.if-is_last.self.spare.items c.push_reserved.new.self.items c.in_ok-sites.sites
          (c.push_reserved.ensures.items ∙ ap (λ xs. xs ++ c.in_ok-sites.sites ∷ []) c.in_ok-reserve.ensures.items)
          (subst (λ v. AreSpare scene v.items) (sym same.2) ready.spare) (c.in_ok-sites.ensures scene used.0);
    }
