use Rattle.std.proofs.Common.{ℕ, ◌≡◌, ◌∷◌, true, false, [], List, length, reverse, sym, ◌∙◌, ap, subst, arith}
use Rattle.std.proofs.lemmas.List.{reverse-append}
use Rattle.std.proofs.lemmas.Result.{err_from_is_err_and}
use Rattle.law_explore.specs.declared.moves.Move.{Move}
use Rattle.law_explore.specs.Positions.{next_behind}
use Rattle.law_replay.specs.Shown.{race_of}
use Rattle.chorus_draw.specs.Draws.{number_of}
use Rattle.chorus_scene.specs.declared.limits.TheConstants.{STEPS_LIMIT}
use Rattle.chorus_explore.specs.Drawings.{Asks, asked_here}
use Rattle.chorus_explore.specs.Drawn.{has_ended, move_by}
use Rattle.chorus_explore.specs.Stages.{may_go, moves_of}
use Rattle.chorus_explore.proofs.DrawnClaims.{follow-first, follow-more, is-end}
use Rattle.chorus_explore.proofs.DrawnHistories.{LeadsOn, drawn-may, leads-to-end, leads-to-stop}
use Rattle.chorus_explore.proofs.Entering.{exit}
use Rattle.chorus_explore.proofs.drawing.follow.Goals as goal

pub loop-step-init : goal.loop-step-init
loop-step-init c =
    let scene = c.args.scenario.now in
    let claims = c.args.claims.now in
    let items = c.in_ok-moves.moves.items in
    let was : moves_of c.args.stage.now ≡ [] = ap reverse c.requires.begins in
    follow-first scene claims c.args.state c.args.judged.now.items c.come.new.judged.items items c.come.new.stage c.come.ensures.reached (c.come.ensures.kept.1 ∙ c.requires.asks)
    (ap (λ v. reverse v.items) c.come.ensures.kept.0 ∙ was) (c.in_ok-moves.ensures.items ∙ ap (next_behind (race_of scene)) was)
    (subst (λ (ms : List Move). Asks scene claims (asked_here (has_ended items) ms) c.args.judged.now.items c.come.new.judged.items) was c.in_ok-moves.ensures.asked)

pub returns-then-is_empty-clause-drawn : goal.returns-then-is_empty-clause-drawn
returns-then-is_empty-clause-drawn c =
    let scene = c.args.scenario.now in
    let moves = c.loop-step.moves in
    let long : moves.len ≡ length moves.items = (let l = moves.ok.0 in omega (arith, l)) in
    let ended : has_ended (next_behind (race_of scene) (moves_of c.loop-step.stage)) ≡ true =
    ap has_ended (sym c.loop-step.invariant.items) ∙ sym (is-end moves.items moves.len long) ∙ sym c.is_empty.ensures ∙ c.if-is_empty.true in
    leads-to-end (race_of scene) c.args.state c.loop-step._step STEPS_LIMIT (moves_of c.loop-step.stage) c.loop-step.to c.loop-step.invariant.leads
    (let lt = c.loop-step-test.true in omega (arith, lt)) ended

pub returns-then-is_empty-clause-asked : goal.returns-then-is_empty-clause-asked
returns-then-is_empty-clause-asked c = c.loop-step.invariant.asked

pub go-requires-clause-may : goal.go-requires-clause-may
go-requires-clause-may c =
    let scene = c.args.scenario.now in
    let moves = c.loop-step.moves in
    let ms = moves_of c.loop-step.stage in
    let n = number_of c.next_state-to.result in
    let long : moves.len ≡ length moves.items = (let l = moves.ok.0 in omega (arith, l)) in
    let goes : has_ended (next_behind (race_of scene) ms) ≡ false =
    ap has_ended (sym c.loop-step.invariant.items) ∙ sym (is-end moves.items moves.len long) ∙ sym c.is_empty.ensures ∙ c.if-is_empty.false in
    ap (λ (m : Move). may_go scene m ms) (c.drawn_move.ensures ∙ ap (λ (xs : List Move). move_by xs n) (c.deref.ensures.value ∙ c.loop-step.invariant.items))
    ∙ drawn-may (race_of scene) ms n goes

pub returns-in_err-go-clause-worn : goal.returns-in_err-go-clause-worn
returns-in_err-go-clause-worn c clock is =
    let p = err_from_is_err_and c.from_residual-in_err-go.result c.from_residual-in_err-go.ensures.1 in
    c.go.ensures.worn clock (exit c.from_residual-in_err-go.result c.go.result _ p.0 _ p.1 p.2 c.in_err-go.was is)

pub loop-step-preserved : goal.loop-step-preserved
loop-step-preserved c =
    let scene = c.args.scenario.now in
    let moves = c.loop-step.moves in
    let z = c.next_state-to.result in
    let s = c.loop-step.stage in
    let t = c.come-in-loop-step.new.stage in
    let long : moves.len ≡ length moves.items = (let l = moves.ok.0 in omega (arith, l)) in
    let goes : has_ended moves.items ≡ false = sym (is-end moves.items moves.len long) ∙ sym c.is_empty.ensures ∙ c.if-is_empty.false in
    let behind : moves_of c.go.new.self ≡ move_by moves.items (number_of z) ∷ moves_of s =
    ap reverse c.in_ok-go.ensures.moves ∙ reverse-append s.moves.items (c.drawn_move.result ∷ [])
    ∙ ap (λ (m : Move). m ∷ moves_of s) (c.drawn_move.ensures ∙ ap (λ (xs : List Move). move_by xs (number_of z)) c.deref.ensures.value) in
    let same : moves_of t ≡ moves_of c.go.new.self = ap (λ v. reverse v.items) c.come-in-loop-step.ensures.kept.0 in
    let next = c.in_ok-moves-2.moves.items in
    follow-more scene c.args.claims.now c.args.state c.loop-step._step c.args.judged.now.items c.loop-step.judged.items c.come-in-loop-step.new.judged.items moves.items next c.loop-step.to z s t
    c.loop-step.invariant goes c.come-in-loop-step.ensures.reached (c.come-in-loop-step.ensures.kept.1 ∙ c.go.ensures.asks ∙ c.loop-step.invariant.asks) c.next_state-to.ensures (same ∙ behind)
    (c.in_ok-moves-2.ensures.items ∙ ap (next_behind (race_of scene)) (sym same))
    (subst (λ (ms : List Move). Asks scene c.args.claims.now (asked_here (has_ended next) ms) c.loop-step.judged.items c.come-in-loop-step.new.judged.items) (sym same) c.in_ok-moves-2.ensures.asked)

pub returns-clause-drawn : goal.returns-clause-drawn
returns-clause-drawn c =
    let scene = c.args.scenario.now in
    let last : c.loop-step._step ≡ STEPS_LIMIT = (let a = c.loop-step-test.false in let b = c.loop-step.auto._step-end in omega (arith, a, b)) in
    leads-to-stop (race_of scene) c.args.state STEPS_LIMIT (moves_of c.loop-step.stage) c.loop-step.to
    (subst (λ (i : ℕ). LeadsOn (race_of scene) c.args.state i (moves_of c.loop-step.stage) c.loop-step.to) last c.loop-step.invariant.leads)

pub returns-clause-asked : goal.returns-clause-asked
returns-clause-asked c = c.loop-step.invariant.asked
