use Rattle.std.proofs.Common.{suc, length, true, false, Ok, refl, arith}
use Rattle.std.proofs.lemmas.Option.{slice_get_read}
use Rattle.law_replay.specs.Shown.{race_of}
use Rattle.law_explore.specs.Members.{Merged, going_on, next_members}
use Rattle.std.proofs.Common.{◌≡◌, ◌++◌, subst, ◌∙◌, ap}
use Rattle.law_explore.specs.Positions.{next_behind}
use Rattle.chorus_explore.specs.declared.level_search.Class.{Class}
use Rattle.chorus_explore.specs.declared.level_search.Search.{Search}
use Rattle.chorus_explore.specs.Classes.{shown_by}
use Rattle.chorus_explore.specs.Searches.{Come, asks_of}
use Rattle.chorus_explore.proofs.Carrying.{sum-all, sum-more, sum-within}
use Rattle.chorus_explore.proofs.Searching.{as-many-stand, class-come, class-cut, flat-all, same-within, stand-at}
use Rattle.chorus_explore.proofs.level_search.Search.go_on.Goals as goal

pub returns-then-not-branch-clause-go_on : goal.returns-then-not-branch-clause-go_on
returns-then-not-branch-clause-go_on c = λ n ms stand.
    let scene = c.args.scenario.now in
    let level = c.args.level.now in
    let i = c.loop-index.index in
    let class = c.index-level-index.result in
    let at = slice_get_read level (length level) i class refl c.loop-index-test.true c.index-level-index.is in
    let one = stand-at (asks_of c.args.asked.now) (race_of scene) n level ms i class stand at in
    let no_ : c.go_on_from.result ≡ Ok false = c.in_ok-go_on_from.was ∙ ap (λ b. Ok b) (grind (arith, c.if-not-branch.true)) in
    let on = c.go_on_from.ensures.go_on n one.0 one.1.1 in
    let s : Search = record c.args.self.now { last = c.take-last.new.self } in
    record {
      come = λ e. absurd (cc);
      cut = λ e pending w. class-cut scene c.args.asked.now n level ms stand i class at s c.loop-index.self c.go_on_from.new.self (c.loop-index.invariant.2 n ms stand)
          (on.cut no_) pending (same-within scene c.args.asked.now (suc n) c.args.self.now s (next_members (race_of scene) ms ++ pending) refl refl w);
    }

pub loop-index-preserved : goal.loop-index-preserved
loop-index-preserved c =
    let scene = c.args.scenario.now in
    let level = c.args.level.now in
    let i = c.loop-index.index in
    let class = c.index-level-index.result in
    let at = slice_get_read level (length level) i class refl c.loop-index-test.true c.index-level-index.is in (
      c.in_ok-go_on_from.ensures.ready,
      (c.take_if-kept.ensures (asks_of c.args.asked.now) scene c.loop-index.invariant.1).1,
      λ n ms stand.
          (let one = stand-at (asks_of c.args.asked.now) (race_of scene) n level ms i class stand at in
          let yes : c.go_on_from.result ≡ Ok true = c.in_ok-go_on_from.was ∙ ap (λ b. Ok b) (grind (arith, c.if-not-branch.false)) in
          class-come scene c.args.asked.now n level ms stand i class at (record c.args.self.now { last = c.take-last.new.self }) c.loop-index.self c.go_on_from.new.self (c.loop-index.invariant.2 n ms stand)
          ((c.go_on_from.ensures.go_on n one.0 one.1.1).come yes)),
      (let yes : c.go_on_from.result ≡ Ok true = c.in_ok-go_on_from.was ∙ ap (λ b. Ok b) (grind (arith, c.if-not-branch.false)) in
          let all = (c.go_on_from.ensures.carries.all yes).0 in
          let was = c.loop-index.invariant.3 in
          let more = sum-more (λ (k : Class). length (next_behind (race_of scene) (shown_by k))) level i class at in
          omega (arith, all, was, more)),
      (let yes : c.go_on_from.result ≡ Ok true = c.in_ok-go_on_from.was ∙ ap (λ b. Ok b) (grind (arith, c.if-not-branch.false)) in
          (c.go_on_from.ensures.carries.all yes).1 ∙ c.loop-index.invariant.4),
    )

pub returns-clause-go_on : goal.returns-clause-go_on
returns-clause-go_on c = λ n ms stand.
    let scene = c.args.scenario.now in
    let level = c.args.level.now in
    let all = as-many-stand (asks_of c.args.asked.now) (race_of scene) n level ms stand in
    let passed = flat-all (λ (m : Merged). going_on (next_behind (race_of scene) m.shows) m.members) ms c.loop-index.index (let e = c.loop-index-test.false in omega (arith, all, e)) in
    let s : Search = record c.args.self.now { last = c.take-last.new.self } in
    record {
      come = λ e pending w. subst (λ hs. Come scene c.args.asked.now (suc n) hs s c.loop-index.self) passed (c.loop-index.invariant.2 n ms stand) pending
          (same-within scene c.args.asked.now (suc n) c.args.self.now s (next_members (race_of scene) ms ++ pending) refl refl w);
      cut = λ e. absurd (cc);
    }

pub returns-then-not-branch-clause-carries : goal.returns-then-not-branch-clause-carries
returns-then-not-branch-clause-carries c =
    let level = c.args.level.now in
    let i = c.loop-index.index in
    let class = c.index-level-index.result in
    let at = slice_get_read level (length level) i class refl c.loop-index-test.true c.index-level-index.is in
    let no_ : c.go_on_from.result ≡ Ok false = c.in_ok-go_on_from.was ∙ ap (λ b. Ok b) (grind (arith, c.if-not-branch.true)) in
    let some = c.go_on_from.ensures.carries.some no_ in
    let was = c.loop-index.invariant.3 in
    let within = sum-within (λ (k : Class). length (next_behind (race_of c.args.scenario.now) (shown_by k))) level i class at in
    record {
      all = λ e. absurd (cc);
      some = λ e. (some.0, some.1 ∙ c.loop-index.invariant.4, (let p = some.2 in omega (arith, p, was)), (let p = some.3 in omega (arith, p, was, within)));
    }

pub returns-clause-carries : goal.returns-clause-carries
returns-clause-carries c =
    let level = c.args.level.now in
    let passed = sum-all (λ (k : Class). length (next_behind (race_of c.args.scenario.now) (shown_by k))) level c.loop-index.index (let e = c.loop-index-test.false in omega (arith, e)) in
    let was = c.loop-index.invariant.3 in
    record {
      all = λ e. (omega (arith, was, passed), c.loop-index.invariant.4);
      some = λ e. absurd (cc);
    }
