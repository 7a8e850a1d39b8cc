use Rattle.std.proofs.Common.{suc, ◌≡◌, ◌+◌, ◌++◌, ◌∷◌, [], true, reverse, refl, sym, ◌∙◌, ap, subst, arith}
use Rattle.std.proofs.lemmas.List.{reverse-append}
use Rattle.std.proofs.lemmas.List.Elements.{Contains-append_left}
use Rattle.law_explore.specs.Members.{going_by, with_move}
use Rattle.law_explore.proofs.Exploring.{lists-next}
use Rattle.law_replay.specs.Shown.{race_of}
use Rattle.explore_report.specs.declared.explored.Explored.{Explored}
use Rattle.chorus_explore.specs.declared.level_search.Search.{Search}
use Rattle.chorus_explore.specs.Classes.{StandsFor, shown_by}
use Rattle.chorus_explore.specs.Searches.{asks_of}
use Rattle.chorus_explore.specs.Stages.{moves_of, position}
use Rattle.chorus_explore.proofs.Searching.{come-by, cut-off, stands-on}
use Rattle.chorus_explore.proofs.level_search.Search.go_by.Goals as goal

pub returns-then-is_enough-clause-go_on : goal.returns-then-is_enough-clause-go_on
returns-then-is_enough-clause-go_on c = λ n m is.
    let s = c.args.self.now in
    let scene = c.args.scenario.now in
    let ms = shown_by c.args.class.now in
    let mv = c.args.mv in
    let listed = (lists-next (race_of scene) (position scene ms) mv).0 c.requires.may in
    let on = stands-on (asks_of c.args.asked.now) scene n ms c.args.class.now.number m mv is listed in
    record {
      come = λ e. absurd (cc);
      cut = λ e pending. cut-off scene c.args.asked.now (suc n) s (record s { explored = record s.explored { is_cut = true } }) (going_by mv m.members ++ pending) refl (c.is_enough.ensures.enough c.if-is_enough.true)
          (mv ∷ m.shows) on.merged.history on.merged.long (Contains-append_left (going_by mv m.members) pending (mv ∷ m.shows) on.among);
    }

pub returns-then-is_enough-clause-carries : goal.returns-then-is_enough-clause-carries
returns-then-is_enough-clause-carries c = record { all = λ e. absurd (cc); some = λ e. (refl, refl, omega arith, omega arith) }

pub returns-clause-carries : goal.returns-clause-carries
returns-clause-carries c =
    let same = c.in_ok-come_to.ensures.events in
    let kept = c.stage_there.ensures.kept.0 in
    record {
      all = λ e. (same.0 ∙ ap (λ (x : Explored). x.events + 1) kept, same.1 ∙ ap (λ (x : Explored). x.bound) kept);
      some = λ e. absurd (cc);
    }

pub returns-clause-go_on : goal.returns-clause-go_on
returns-clause-go_on c = λ n m is.
    let scene = c.args.scenario.now in
    let ms = shown_by c.args.class.now in
    let mv = c.args.mv in
    let there = c.in_ok-stage.ensures.there in
    let path : moves_of c.go.new.self ≡ c.args.mv ∷ shown_by c.args.class.now =
    ap reverse (c.in_ok-go.ensures.moves ∙ ap (λ xs. xs ++ c.args.mv ∷ []) (there.moves_are ∙ c.deref.ensures.value)) ∙ reverse-append c.args.class.now.moves.items (mv ∷ []) in
    let listed = (lists-next (race_of scene) (position scene ms) mv).0 c.requires.may in
    let on = stands-on (asks_of c.args.asked.now) scene n ms c.args.class.now.number m mv is listed in
    let kept = c.stage_there.ensures.kept in
    let e = c.stage_there.new.self.explored in
    let t : Search = record c.stage_there.new.self { explored = record e { events = e.events + 1 } } in
    let events : e.events ≡ c.args.self.now.explored.events = ap (λ (x : Explored). x.events) kept.0 in
    let below = c.is_enough.ensures.goes_on c.if-is_enough.false in
    record {
      come = λ yes pending w. c.in_ok-come_to.ensures.come (suc n) (with_move mv m)
          (subst (λ k. StandsFor (asks_of c.args.asked.now) (race_of scene) (suc n) k c.args.class.now.number (with_move mv m)) (sym path) on) pending
          (come-by scene c.args.asked.now (suc n) c.args.self.now t (going_by mv m.members ++ pending) (ap (λ (x : Explored). x.findings) kept.0) (ap (λ (x : Explored). x.judged) kept.0) (ap (λ (x : Explored). x.histories) kept.0)
          (omega (arith, events, below)) (ap (λ (x : Explored). x.is_cut) kept.0) (ap (λ (x : Explored). x.bound) kept.0) kept.1 w);
      cut = λ no_. absurd (cc);
    }
