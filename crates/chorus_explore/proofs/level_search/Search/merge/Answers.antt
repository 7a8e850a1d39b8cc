use Rattle.std.proofs.Common.{min, ◌≡◌, ◌+◌, ◌-◌, ◌^◌, Bool, false, Some, slice_get, reverse, refl, sym, ◌∙◌, ap, subst}
use Rattle.std.specs.Option.{IfSome}
use Rattle.std.proofs.lemmas.List.Elements.{All-push}
use Rattle.law_explore.specs.Search.{IsHistory}
use Rattle.law_explore.specs.Races.{replaying}
use Rattle.law_replay.specs.Shown.{race_of}
use Rattle.law_explore.specs.Merging.{ComeToldAlike}
use Rattle.explore_report.specs.Findings.{HaveSums}
use Rattle.explore_report.specs.Judgements.{JudgesAll}
use Rattle.chorus_explore.specs.Searches.{IsReady, asks_of}
use Rattle.chorus_explore.specs.Tellings.{tells_of}
use Rattle.explore_report.specs.declared.explored.Explored.{Explored}
use Rattle.chorus_explore.specs.declared.level_search.Class.{Class}
use Rattle.chorus_explore.specs.declared.level_search.Search.{Search}
use Rattle.chorus_explore.specs.Classes.{AreClasses, IsClassOf, shown_by}
use Rattle.chorus_explore.specs.Stages.{AreSpare, IsReachedIf, facts_at, moves_of}
use Rattle.chorus_explore.proofs.Searching.{classes-set, put-last, put-to, read-same}
use Rattle.chorus_explore.proofs.level_search.Search.merge.Goals.{In_ok-keep, in-Some, in-None+in_ok-make_class-in-None}
use Rattle.chorus_explore.proofs.level_search.Search.merge.Goals as goal

-- but for what was found of the claims
same-explored : (c : In_ok-keep) → c.match-found.self.explored ≡ record c.args.self.now.explored { judged = c.match-found.self.explored.judged }
same-explored c =
    elim c.match-found.branch [
      | in-Some w ↦
          subst (λ (s : Search). s.explored ≡ record c.args.self.now.explored { judged = s.explored.judged }) (sym w.self-is) refl
      | in-None+in_ok-make_class-in-None w ↦
          subst (λ (s : Search). s.explored ≡ record c.args.self.now.explored { judged = s.explored.judged }) (sym w.self-is) w.make_class.ensures.explored
    ]

same-spare : (c : In_ok-keep) → c.match-found.self.spare ≡ c.class_of.new.spare
same-spare c =
    elim c.match-found.branch [
      | in-Some w ↦ ap (λ (s : Search). s.spare) w.self-is
      | in-None+in_ok-make_class-in-None w ↦ ap (λ (s : Search). s.spare) w.self-is ∙ w.make_class.ensures.kept.1
    ]

are-classes : (c : In_ok-keep) → AreClasses c.args.scenario.now c.match-found.self.next.items
are-classes c =
    let scene = c.args.scenario.now in
    let classes = c.args.self.now.next.items in
    elim c.match-found.branch [
      | in-Some w ↦
          (let found = subst (λ o. IfSome o (λ index. IsClassOf c.args.stage.asks scene c.deref.result.now index (moves_of c.args.stage))) w.in-Some.is c.in_ok-found.ensures.some in
          let at = subst (λ ks. slice_get ks w.in-Some.index ≡ Some found.class) c.deref.ensures.value found.stands in
          let old = read-same classes w.in-Some.index found.class w.index_mut.result.now at w.index_mut.ensures.value in
          let new : Class = record w.index_mut.result.now { number = w.saturating_add.result } in
          subst (λ (s : Search). AreClasses scene s.next.items) (sym w.self-is)
          (classes-set scene classes w.in-Some.index found.class new at (ap (λ (k : Class). k.moves) old) c.requires.ready.classes))
      | in-None+in_ok-make_class-in-None w ↦
          (let made = w.in_ok-make_class-in-None.ensures.made in
          subst (λ (s : Search). AreClasses scene s.next.items) (sym w.self-is)
          (subst (AreClasses scene) (sym made.is)
          (All-push (λ (k : Class). IsHistory (replaying (race_of scene)) (shown_by k)) classes made.class c.requires.ready.classes
          (subst (IsHistory (replaying (race_of scene))) (sym (ap reverse made.moves_are)) c.requires.reached.history))))
    ]

same-last : (c : In_ok-keep) → c.match-found.self.last ≡ c.args.self.now.last
same-last c =
    elim c.match-found.branch [
      | in-Some w ↦ ap (λ (s : Search). s.last) w.self-is
      | in-None+in_ok-make_class-in-None w ↦ ap (λ (s : Search). s.last) w.self-is ∙ w.make_class.ensures.kept.0
    ]

pub returns-clause-ready : goal.returns-clause-ready
returns-clause-ready c =
    let scene = c.args.scenario.now in
    let asks = c.requires.asks in
    subst (λ (by : Bool). IsReady by scene c.keep.new.self) asks
    (c.in_ok-keep.ensures.ready scene c.requires.reached
    (record {
      classes = are-classes c;
      sums = subst (λ (e : Explored). HaveSums e.findings.items.items) (sym (same-explored c)) c.requires.ready.sums;
      last = subst (λ (by : Bool). IsReachedIf by scene c.match-found.self.last) (sym asks) (subst (IsReachedIf (asks_of c.args.asked.now) scene) (sym (same-last c)) c.requires.ready.last);
      spare = subst (λ v. AreSpare scene v.items) (sym (same-spare c)) c.in_ok-found.ensures.spare;
    }))

pub returns-clause-come : goal.returns-clause-come
returns-clause-come c = λ n m is.
    let scene = c.args.scenario.now in
    let asked = c.args.asked.now in
    let classes = c.args.self.now.next.items in
    let t = c.keep.new.self in
    let kept = c.in_ok-keep.ensures.kept in
    elim c.match-found.branch [
      | in-Some w ↦
          (let found = subst (λ o. IfSome o (λ index. IsClassOf c.args.stage.asks scene c.deref.result.now index (moves_of c.args.stage))) w.in-Some.is c.in_ok-found.ensures.some in
          let at = subst (λ ks. slice_get ks w.in-Some.index ≡ Some found.class) c.deref.ensures.value found.stands in
          let old = read-same classes w.in-Some.index found.class w.index_mut.result.now at w.index_mut.ensures.value in
          let read = read-same classes w.in-Some.index found.class w.index.result.now at w.index.ensures in
          let new : Class = record w.index_mut.result.now { number = w.saturating_add.result } in
          put-to scene asked n c.args.self.now t (moves_of c.args.stage) c.args.number m is w.in-Some.index found.class new at (ap (λ (k : Class). k.moves) old)
          (w.saturating_add.ensures ∙ ap (λ (k : Class). min (k.number + c.args.number) (2 ^ 64 - 1)) read) (subst (λ (by : Bool). ComeToldAlike (tells_of by) (race_of scene) (shown_by found.class) (moves_of c.args.stage)) c.requires.asks found.alike) (kept.0 ∙ ap (λ (s : Search). s.explored) w.self-is) (ap (λ v. v.items) kept.1 ∙ ap (λ (s : Search). s.next.items) w.self-is))
      | in-None+in_ok-make_class-in-None w ↦
          (let made = w.in_ok-make_class-in-None.ensures.made in
          let there = kept.0 ∙ ap (λ (s : Search). s.explored) w.self-is in
          put-last scene asked n c.args.self.now t (moves_of c.args.stage) c.args.number m is made.class (ap reverse made.moves_are) made.number_is c.requires.goes_on
          (λ yes. subst (λ (e : Explored). JudgesAll false asked.claims.now (facts_at scene (moves_of c.args.stage)) (moves_of c.args.stage) c.args.self.now.explored.judged.items e.judged.items) (sym there)
          (w.in_ok-make_class-in-None.ensures.judged yes))
          (subst (λ (e : Explored). e ≡ record c.args.self.now.explored { judged = e.judged }) (sym there) w.make_class.ensures.explored)
          (ap (λ v. v.items) kept.1 ∙ ap (λ (s : Search). s.next.items) w.self-is ∙ made.is))
    ]

pub returns-clause-events : goal.returns-clause-events
returns-clause-events c =
    let same = c.in_ok-keep.ensures.kept.0 ∙ same-explored c in
    (ap (λ (e : Explored). e.events) same, ap (λ (e : Explored). e.bound) same)
