use Rattle.std.proofs.Common.{ℕ, suc, ◌≡◌, ◌≤◌, ◌+◌, [], length, true, false, not, Ok, refl, sym, ◌∙◌, ap, subst, arith}
use Rattle.std.proofs.lemmas.Bool.{eqb-true, eq-eqb, false≢true}
use Rattle.std.proofs.lemmas.List.{append-nil, nil_from_length}
use Rattle.law_explore.specs.Members.{next_members}
use Rattle.law_replay.specs.Shown.{race_of}
use Rattle.chorus_scene.specs.declared.limits.TheConstants.{STEPS_LIMIT}
use Rattle.chorus_explore.specs.declared.level_search.Search.{Search}
use Rattle.chorus_explore.specs.Classes.{StandFor, moves_from}
use Rattle.chorus_explore.specs.Searches.{IsWithin, asks_of}
use Rattle.chorus_explore.proofs.Carrying.{HasCarried, carried-all, carried-on, carried-some, none-carried}
use Rattle.chorus_explore.proofs.Searching.{level-begins, over-by, search-ends}
use Rattle.chorus_explore.proofs.level_search.go_over.Goals as goal

pub returns-then-is_empty-clause-over : goal.returns-then-is_empty-clause-over
returns-then-is_empty-clause-over c =
    let scene = c.args.scenario.now in
    let s = c.loop-length.search in
    let w = c.loop-length.invariant.1 in
    let zero = eqb-true c.replace-level.result.len 0 (sym c.is_empty.ensures ∙ c.if-is_empty.true) in
    let long = c.replace-level.result.ok.0 in
    let none : c.replace-level.result.items ≡ [] = nil_from_length c.replace-level.result.items (omega (arith, zero, long)) in
    search-ends scene c.args.asked.now c.loop-length.length s w (sym (ap (λ v. v.items) c.replace-level.ensures.value) ∙ none)

pub returns-then-not-branch-clause-over : goal.returns-then-not-branch-clause-over
returns-then-not-branch-clause-over c =
    let scene = c.args.scenario.now in
    let s = c.loop-length.search in
    let w = c.loop-length.invariant.1 in
    let merged = w.merged in
    let t : Search = record c.loop-length.search { next = c.replace-level.new.dest; explored = record c.loop-length.search.explored { bound = c.loop-length.length + 1 } } in
    let more : c.loop-length.length + 1 ≡ suc c.loop-length.length = omega arith in
    let level = c.deref.ensures.value ∙ ap (λ v. v.items) c.replace-level.ensures.value in
    let empty = ap (λ v. v.items) c.replace-level.ensures.after ∙ c.new.ensures.items in
    let no_ : c.go_on.result ≡ Ok false = c.in_ok-go_on.was ∙ ap (λ b. Ok b) (grind (arith, c.if-not-branch.true)) in
    let on = c.go_on.ensures.go_on c.loop-length.length merged (subst (λ ks. StandFor (asks_of c.args.asked.now) (race_of scene) c.loop-length.length ks merged) (sym level) w.stand) in
    on.cut no_ [] (subst (λ hs. IsWithin scene c.args.asked.now (suc c.loop-length.length) hs t) (sym (append-nil (next_members (race_of scene) merged))) (level-begins scene c.args.asked.now c.loop-length.length s w t (c.loop-length.length + 1) more refl empty))

pub loop-length-preserved : goal.loop-length-preserved
loop-length-preserved c =
    let scene = c.args.scenario.now in
    let s = c.loop-length.search in
    let w = c.loop-length.invariant.1 in
    let merged = w.merged in
    let t : Search = record c.loop-length.search { next = c.replace-level.new.dest; explored = record c.loop-length.search.explored { bound = c.loop-length.length + 1 } } in
    let more : c.loop-length.length + 1 ≡ suc c.loop-length.length = omega arith in
    let level = c.deref.ensures.value ∙ ap (λ v. v.items) c.replace-level.ensures.value in
    let empty = ap (λ v. v.items) c.replace-level.ensures.after ∙ c.new.ensures.items in
    let yes : c.go_on.result ≡ Ok true = c.in_ok-go_on.was ∙ ap (λ b. Ok b) (grind (arith, c.if-not-branch.false)) in
    let on = c.go_on.ensures.go_on c.loop-length.length merged (subst (λ ks. StandFor (asks_of c.args.asked.now) (race_of scene) c.loop-length.length ks merged) (sym level) w.stand) in (
      c.in_ok-go_on.ensures.ready,
      subst (λ (k : ℕ). IsWithin scene c.args.asked.now k [] c.go_on.new.self) (sym more) (on.come yes [] (subst (λ hs. IsWithin scene c.args.asked.now (suc c.loop-length.length) hs t) (sym (append-nil (next_members (race_of scene) merged))) (level-begins scene c.args.asked.now c.loop-length.length s w t (c.loop-length.length + 1) more refl empty))),
      subst (λ (k : ℕ). HasCarried (asks_of c.args.asked.now) (race_of scene) k c.go_on.new.self.explored) (sym more) (carried-on scene c.args.asked.now c.loop-length.length s w c.loop-length.invariant.2 c.go_on.new.self.explored
          ((c.go_on.ensures.carries.all yes).0 ∙ ap (λ ks. c.loop-length.search.explored.events + moves_from scene ks) level)),
    )

pub returns-clause-over : goal.returns-clause-over
returns-clause-over c =
    let s = c.loop-length.search in
    let w = c.loop-length.invariant.1 in
    let last : c.loop-length.length ≡ STEPS_LIMIT = (let a = c.loop-length-test.false in let b = c.loop-length.auto.length-end in omega (arith, a, b)) in
    let long = c.loop-length.search.next.ok.0 in
    over-by c.args.scenario.now c.args.asked.now c.loop-length.length s w last (not c.is_empty-2.result)
    (λ e.
    (let yes : c.is_empty-2.result ≡ true = grind (arith, e) in
    let zero = eqb-true c.loop-length.search.next.len 0 (sym c.is_empty-2.ensures ∙ yes) in
    nil_from_length c.loop-length.search.next.items (omega (arith, zero, long))))
    (λ e none.
    (let no_ : c.is_empty-2.result ≡ false = grind (arith, e) in
    let zero : c.loop-length.search.next.len ≡ 0 = (let z = ap length none in omega (arith, z, long)) in
    false≢true (sym no_ ∙ c.is_empty-2.ensures ∙ eq-eqb c.loop-length.search.next.len 0 zero)))

pub returns-then-is_empty-clause-carried : goal.returns-then-is_empty-clause-carried
returns-then-is_empty-clause-carried c =
    let s = c.loop-length.search in
    let zero = eqb-true c.replace-level.result.len 0 (sym c.is_empty.ensures ∙ c.if-is_empty.true) in
    let long = c.replace-level.result.ok.0 in
    let none : c.replace-level.result.items ≡ [] = nil_from_length c.replace-level.result.items (omega (arith, zero, long)) in
    carried-all c.args.scenario.now c.args.asked.now c.loop-length.length s c.loop-length.invariant.1 c.loop-length.invariant.2 s.explored refl refl
    (λ e. sym (ap (λ v. v.items) c.replace-level.ensures.value) ∙ none)

pub returns-then-not-branch-clause-carried : goal.returns-then-not-branch-clause-carried
returns-then-not-branch-clause-carried c =
    let scene = c.args.scenario.now in
    let s = c.loop-length.search in
    let level = c.deref.ensures.value ∙ ap (λ v. v.items) c.replace-level.ensures.value in
    let no_ : c.go_on.result ≡ Ok false = c.in_ok-go_on.was ∙ ap (λ b. Ok b) (grind (arith, c.if-not-branch.true)) in
    let some = c.go_on.ensures.carries.some no_ in
    let more : c.loop-length.length + 1 ≡ suc c.loop-length.length = omega arith in
    carried-some scene c.args.asked.now c.loop-length.length s c.loop-length.invariant.1 c.loop-length.invariant.2 c.go_on.new.self.explored some.0 (some.1 ∙ more) some.2
    (subst (λ ks. c.go_on.new.self.explored.events ≤ c.loop-length.search.explored.events + moves_from scene ks) level some.3)

pub returns-clause-carried : goal.returns-clause-carried
returns-clause-carried c =
    let s = c.loop-length.search in
    let long = c.loop-length.search.next.ok.0 in
    carried-all c.args.scenario.now c.args.asked.now c.loop-length.length s c.loop-length.invariant.1 c.loop-length.invariant.2 (record s.explored { is_cut = not c.is_empty-2.result }) refl refl
    (λ e.
    (let yes : c.is_empty-2.result ≡ true = grind (arith, e) in
    let zero = eqb-true c.loop-length.search.next.len 0 (sym c.is_empty-2.ensures ∙ yes) in
    nil_from_length c.loop-length.search.next.items (omega (arith, zero, long))))

pub loop-length-init : goal.loop-length-init
loop-length-init c =
    (c.in_ok-search.ensures.ready, c.in_ok-search.ensures.begun, none-carried (asks_of c.args.asked.now) (race_of c.args.scenario.now) c.in_ok-search.search.explored c.in_ok-search.ensures.none)
