use Rattle.std.proofs.Common.{ℕ, ◌≡◌, ◌+◌, ◌∷◌, true, false, [], List, length, reverse, refl, sym, ◌∙◌, ap, subst, arith}
use Rattle.std.proofs.lemmas.List.{reverse-append}
use Rattle.std.proofs.lemmas.Result.{err_from_is_err_and}
use Rattle.law_explore.specs.declared.moves.Move.{Move}
use Rattle.law_explore.specs.Positions.{next_behind}
use Rattle.law_replay.specs.Shown.{race_of}
use Rattle.chorus_draw.specs.Draws.{number_of}
use Rattle.chorus_scene.specs.declared.limits.TheConstants.{STEPS_LIMIT}
use Rattle.chorus_explore.specs.Drawn.{drawn_from, has_ended, move_by}
use Rattle.chorus_explore.specs.Stages.{may_go, moves_of}
use Rattle.chorus_explore.proofs.DrawnClaims.{is-end}
use Rattle.chorus_explore.proofs.DrawnHistories.{LeadsOn, drawn-may, leads-on, leads-to-end, leads-to-stop}
use Rattle.chorus_explore.proofs.Entering.{exit}
use Rattle.chorus_explore.proofs.drawn_outcomes.follow.Goals as goal

pub loop-step-init : goal.loop-step-init
loop-step-init c =
    let r = race_of c.args.scenario.now in
    let x = c.args.state in
    let was : moves_of c.args.stage.now ≡ [] = ap reverse c.requires.begins in (
      c.requires.reached,
      refl,
      λ more.
          (let n : 0 + more ≡ more = omega arith in
          ap (λ k. drawn_from r k [] x) n ∙ ap (λ (ms : List Move). drawn_from r more ms x) (sym was)),
    )

pub returns-then-is_empty-clause-drawn : goal.returns-then-is_empty-clause-drawn
returns-then-is_empty-clause-drawn c =
    let r = race_of c.args.scenario.now in
    let moves = c.in_ok-moves.moves in
    let same : moves_of c.next_moves.new.self ≡ moves_of c.loop-step.stage = ap (λ v. reverse v.items) c.next_moves.ensures.moves.0 in
    let long : moves.len ≡ length moves.items = (let l = moves.ok.0 in omega (arith, l)) in
    let ended : has_ended (next_behind r (moves_of c.next_moves.new.self)) ≡ true =
    ap (λ (ms : List Move). has_ended (next_behind r ms)) same ∙ ap has_ended (sym c.in_ok-moves.ensures.items) ∙ sym (is-end moves.items moves.len long) ∙ sym c.is_empty.ensures ∙ c.if-is_empty.true in
    leads-to-end r c.args.state c.loop-step._step STEPS_LIMIT (moves_of c.next_moves.new.self) c.loop-step.to
    (subst (λ (ms : List Move). LeadsOn r c.args.state c.loop-step._step ms c.loop-step.to) (sym same) c.loop-step.invariant.2)
    (let lt = c.loop-step-test.true in omega (arith, lt)) ended

pub go-requires-clause-may : goal.go-requires-clause-may
go-requires-clause-may c =
    let scene = c.args.scenario.now in
    let r = race_of scene in
    let moves = c.in_ok-moves.moves in
    let ms = moves_of c.loop-step.stage in
    let same : moves_of c.next_moves.new.self ≡ ms = ap (λ v. reverse v.items) c.next_moves.ensures.moves.0 in
    let n = number_of c.next_state-to.result in
    let long : moves.len ≡ length moves.items = (let l = moves.ok.0 in omega (arith, l)) in
    let goes : has_ended (next_behind r ms) ≡ false =
    ap has_ended (sym c.in_ok-moves.ensures.items) ∙ sym (is-end moves.items moves.len long) ∙ sym c.is_empty.ensures ∙ c.if-is_empty.false in
    ap (λ (os : List Move). may_go scene c.drawn_move.result os) same
    ∙ ap (λ (m : Move). may_go scene m ms) (c.drawn_move.ensures ∙ ap (λ (xs : List Move). move_by xs n) (c.deref.ensures.value ∙ c.in_ok-moves.ensures.items))
    ∙ drawn-may r ms n goes

pub returns-in_err-go-clause-worn : goal.returns-in_err-go-clause-worn
returns-in_err-go-clause-worn c clock is =
    let p = err_from_is_err_and c.from_residual-in_err-go.result c.from_residual-in_err-go.ensures.1 in
    c.go.ensures.worn clock (exit c.from_residual-in_err-go.result c.go.result _ p.0 _ p.1 p.2 c.in_err-go.was is)

pub loop-step-preserved : goal.loop-step-preserved
loop-step-preserved c =
    let scene = c.args.scenario.now in
    let r = race_of scene in
    let moves = c.in_ok-moves.moves in
    let z = c.next_state-to.result in
    let ms = moves_of c.loop-step.stage in
    let same : moves_of c.next_moves.new.self ≡ ms = ap (λ v. reverse v.items) c.next_moves.ensures.moves.0 in
    let long : moves.len ≡ length moves.items = (let l = moves.ok.0 in omega (arith, l)) in
    let goes : has_ended (next_behind r ms) ≡ false =
    ap has_ended (sym c.in_ok-moves.ensures.items) ∙ sym (is-end moves.items moves.len long) ∙ sym c.is_empty.ensures ∙ c.if-is_empty.false in
    let behind : moves_of c.go.new.self ≡ move_by (next_behind r ms) (number_of z) ∷ ms =
    ap reverse c.in_ok-go.ensures.moves ∙ reverse-append c.next_moves.new.self.moves.items (c.drawn_move.result ∷ []) ∙ ap (λ (os : List Move). c.drawn_move.result ∷ os) same
    ∙ ap (λ (m : Move). m ∷ ms) (c.drawn_move.ensures ∙ ap (λ (xs : List Move). move_by xs (number_of z)) (c.deref.ensures.value ∙ c.in_ok-moves.ensures.items)) in (
      c.in_ok-go.ensures.reached,
      c.go.ensures.asks ∙ c.next_moves.ensures.moves.1 ∙ c.loop-step.invariant.1,
      leads-on r c.args.state c.loop-step._step ms c.loop-step.to c.loop-step.invariant.2 goes (moves_of c.go.new.self) z behind c.next_state-to.ensures,
    )

pub returns-clause-drawn : goal.returns-clause-drawn
returns-clause-drawn c =
    let r = race_of c.args.scenario.now in
    let last : c.loop-step._step ≡ STEPS_LIMIT = (let a = c.loop-step-test.false in let b = c.loop-step.auto._step-end in omega (arith, a, b)) in
    leads-to-stop r c.args.state STEPS_LIMIT (moves_of c.loop-step.stage) c.loop-step.to
    (subst (λ (i : ℕ). LeadsOn r c.args.state i (moves_of c.loop-step.stage) c.loop-step.to) last c.loop-step.invariant.2)
