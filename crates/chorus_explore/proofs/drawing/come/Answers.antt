use Rattle.std.proofs.Common.{◌≡◌, List, length, reverse, ◌∙◌, ap, subst, arith}
use Rattle.law_explore.specs.declared.moves.Move.{Move}
use Rattle.chorus_explore.specs.Drawings.{Asks, asked_here}
use Rattle.chorus_explore.specs.Drawn.{has_ended}
use Rattle.chorus_explore.specs.Stages.{moves_of}
use Rattle.chorus_explore.proofs.DrawnClaims.{asks-here, is-end}
use Rattle.chorus_explore.proofs.drawing.come.Goals as goal

pub returns-clause-asked : goal.returns-clause-asked
returns-clause-asked c =
    let scene = c.args.scenario.now in
    let claims = c.args.claims.now in
    let old = c.args.judged.now.items in
    let new = c.ask.new.judged.items in
    let items = c.in_ok-moves.moves.items in
    let there = c.next_moves.new.self in
    let long : c.in_ok-moves.moves.len ≡ length items = (let l = c.in_ok-moves.moves.ok.0 in omega (arith, l)) in
    let ended : c.is_empty.result ≡ has_ended items = c.is_empty.ensures ∙ is-end items c.in_ok-moves.moves.len long in
    let same : moves_of there ≡ moves_of c.args.stage.now = ap (λ v. reverse v.items) c.next_moves.ensures.moves.0 in
    subst (λ (ms : List Move). Asks scene claims (asked_here (has_ended items) ms) old new) same
    (subst (λ b. Asks scene claims (asked_here b (moves_of there)) old new) ended (asks-here scene claims c.is_empty.result (moves_of there) old new c.in_ok-ask.ensures))
