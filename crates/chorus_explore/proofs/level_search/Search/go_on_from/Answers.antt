use Rattle.std.proofs.Common.{suc, ◌≡◌, ◌<◌, ◌++◌, length, true, false, Ok, reverse, refl, sym, ◌∙◌, ap, subst, arith}
use Rattle.std.proofs.lemmas.Option.{slice_get_read}
use Rattle.law_explore.specs.declared.moves.Move.{Move}
use Rattle.law_explore.specs.Members.{going_by, going_on}
use Rattle.law_explore.specs.Positions.{next_behind}
use Rattle.law_explore.proofs.Exploring.{lists-next}
use Rattle.law_replay.specs.Shown.{race_of}
use Rattle.explore_report.specs.declared.explored.Explored.{Explored}
use Rattle.chorus_explore.specs.Classes.{shown_by}
use Rattle.chorus_explore.specs.Searches.{Come, IsWithin, LeadsThere, asks_of}
use Rattle.chorus_explore.specs.Stages.{position}
use Rattle.chorus_explore.proofs.Searching.{flat-all, listed-at, move-come, move-cut, same-within}
use Rattle.chorus_explore.proofs.level_search.Search.go_on_from.Goals as goal

pub go_by-requires-clause-may : goal.go_by-requires-clause-may
go_by-requires-clause-may c =
    let scene = c.args.scenario.now in
    let moves = c.in_ok-moves.moves.items in
    let lt : c.loop-index.index < length c.in_ok-moves.moves.items = (let a = c.loop-index-test.true in let b = c.len-index-end.ensures in omega (arith, a, b)) in
    let at = slice_get_read moves (length moves) c.loop-index.index c.index.result.now refl lt c.index.ensures in
    let there = c.in_ok-stage.ensures.there in
    let listed = c.in_ok-moves.ensures.items ∙ ap (λ xs. next_behind (race_of c.args.scenario.now) (reverse xs)) (there.moves_are ∙ c.deref-2.ensures.value) in
    (lists-next (race_of scene) (position scene (shown_by c.args.class.now)) c.index.result.now).1
    (listed-at c.in_ok-moves.moves.items (next_behind (race_of scene) (shown_by c.args.class.now)) c.loop-index.index c.index.result.now at listed)

pub returns-then-not-branch-clause-go_on : goal.returns-then-not-branch-clause-go_on
returns-then-not-branch-clause-go_on c = λ n m is.
    let scene = c.args.scenario.now in
    let moves = c.in_ok-moves.moves.items in
    let i = c.loop-index.index in
    let mv = c.index.result.now in
    let lt : c.loop-index.index < length c.in_ok-moves.moves.items = (let a = c.loop-index-test.true in let b = c.len-index-end.ensures in omega (arith, a, b)) in
    let at = slice_get_read moves (length moves) i mv refl lt c.index.ensures in
    let no_ : c.go_by.result ≡ Ok false = c.in_ok-go_by.was ∙ ap (λ b. Ok b) (grind (arith, c.if-not-branch.true)) in
    let there = c.in_ok-stage.ensures.there in
    let listed = c.in_ok-moves.ensures.items ∙ ap (λ xs. next_behind (race_of c.args.scenario.now) (reverse xs)) (there.moves_are ∙ c.deref-2.ensures.value) in
    let s = c.stage_there.new.self in
    let same = c.stage_there.ensures.kept in
    record {
      come = λ e. absurd (cc);
      cut = λ e pending w. move-cut scene c.args.asked.now (suc n) moves m.members i mv at s c.loop-index.self c.go_by.new.self (c.loop-index.invariant.2 n m is)
          ((c.go_by.ensures.go_on n m is).cut no_) pending
          (same-within scene c.args.asked.now (suc n) c.args.self.now s (going_on moves m.members ++ pending) same.0 same.1
          (subst (λ xs. IsWithin scene c.args.asked.now (suc n) (going_on xs m.members ++ pending) c.args.self.now) (sym listed) w));
    }

pub loop-index-preserved : goal.loop-index-preserved
loop-index-preserved c =
    let scene = c.args.scenario.now in
    let moves = c.in_ok-moves.moves.items in
    let i = c.loop-index.index in
    let mv = c.index.result.now in
    let lt : c.loop-index.index < length c.in_ok-moves.moves.items = (let a = c.loop-index-test.true in let b = c.len-index-end.ensures in omega (arith, a, b)) in
    let at = slice_get_read moves (length moves) i mv refl lt c.index.ensures in
    let yes : c.go_by.result ≡ Ok true = c.in_ok-go_by.was ∙ ap (λ b. Ok b) (grind (arith, c.if-not-branch.false)) in (
      c.in_ok-go_by.ensures.ready,
      subst (LeadsThere (asks_of c.args.asked.now) scene c.args.class.now.moves.items) (sym c.take.ensures.after) tt,
      λ n m is.
          move-come scene c.args.asked.now (suc n) moves m.members i mv at c.stage_there.new.self c.loop-index.self c.go_by.new.self (c.loop-index.invariant.2 n m is)
          ((c.go_by.ensures.go_on n m is).come yes),
      (let all = (c.go_by.ensures.carries.all yes).0 in let was = c.loop-index.invariant.3 in omega (arith, all, was)),
      (c.go_by.ensures.carries.all yes).1 ∙ c.loop-index.invariant.4,
    )

pub returns-clause-go_on : goal.returns-clause-go_on
returns-clause-go_on c = λ n m is.
    let scene = c.args.scenario.now in
    let moves = c.in_ok-moves.moves.items in
    let there = c.in_ok-stage.ensures.there in
    let listed = c.in_ok-moves.ensures.items ∙ ap (λ xs. next_behind (race_of c.args.scenario.now) (reverse xs)) (there.moves_are ∙ c.deref-2.ensures.value) in
    let passed = flat-all (λ (mv : Move). going_by mv m.members) moves c.loop-index.index (let e = c.loop-index-test.false in let l = c.len-index-end.ensures in omega (arith, e, l)) in
    let s = c.stage_there.new.self in
    let same = c.stage_there.ensures.kept in
    record {
      come = λ e pending w.
          subst (λ hs. Come scene c.args.asked.now (suc n) hs s c.loop-index.self) (passed ∙ ap (λ xs. going_on xs m.members) listed) (c.loop-index.invariant.2 n m is) pending
          (same-within scene c.args.asked.now (suc n) c.args.self.now s (going_on (next_behind (race_of scene) (shown_by c.args.class.now)) m.members ++ pending) same.0 same.1 w);
      cut = λ e. absurd (cc);
    }

pub returns-then-not-branch-clause-carries : goal.returns-then-not-branch-clause-carries
returns-then-not-branch-clause-carries c =
    let there = c.in_ok-stage.ensures.there in
    let long = ap length (c.in_ok-moves.ensures.items ∙ ap (λ xs. next_behind (race_of c.args.scenario.now) (reverse xs)) (there.moves_are ∙ c.deref-2.ensures.value)) in
    let no_ : c.go_by.result ≡ Ok false = c.in_ok-go_by.was ∙ ap (λ b. Ok b) (grind (arith, c.if-not-branch.true)) in
    let some = c.go_by.ensures.carries.some no_ in
    let same = c.stage_there.ensures.kept.0 in
    let events : c.stage_there.new.self.explored.events ≡ c.args.self.now.explored.events = ap (λ (x : Explored). x.events) same in
    let was = c.loop-index.invariant.3 in
    let a = c.loop-index-test.true in
    let b = c.len-index-end.ensures in
    record {
      all = λ e. absurd (cc);
      some = λ e. (some.0, some.1 ∙ c.loop-index.invariant.4 ∙ ap (λ (x : Explored). x.bound) same, (let p = some.2 in omega (arith, p, was, events)), (let p = some.3 in omega (arith, p, was, events, a, b, long)));
    }

pub returns-clause-carries : goal.returns-clause-carries
returns-clause-carries c =
    let there = c.in_ok-stage.ensures.there in
    let long = ap length (c.in_ok-moves.ensures.items ∙ ap (λ xs. next_behind (race_of c.args.scenario.now) (reverse xs)) (there.moves_are ∙ c.deref-2.ensures.value)) in
    let same = c.stage_there.ensures.kept.0 in
    let events : c.stage_there.new.self.explored.events ≡ c.args.self.now.explored.events = ap (λ (x : Explored). x.events) same in
    let was = c.loop-index.invariant.3 in
    let a = c.loop-index-test.false in
    let b = c.len-index-end.ensures in
    let d = c.loop-index.auto.index-end in
    record {
      all = λ e. (omega (arith, was, events, a, b, d, long), c.loop-index.invariant.4 ∙ ap (λ (x : Explored). x.bound) same);
      some = λ e. absurd (cc);
    }
