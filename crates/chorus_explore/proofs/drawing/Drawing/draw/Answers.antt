use Rattle.std.proofs.Common.{ℕ, ◌≡◌, List, length, refl, sym, ap, arith}
use Rattle.std.proofs.lemmas.List.{length-reverse}
use Rattle.law_explore.specs.declared.moves.Move.{Move}
use Rattle.law_replay.specs.Shown.{race_of}
use Rattle.chorus_explore.specs.Drawings.{one_drawn}
use Rattle.chorus_explore.specs.Drawn.{asked_on}
use Rattle.chorus_explore.specs.Stages.{moves_of}
use Rattle.chorus_explore.proofs.DrawnClaims.{asks-same, drawn-length}
use Rattle.chorus_explore.proofs.drawing.Drawing.draw.Goals as goal

pub overflow_add-self : goal.overflow_add-self
overflow_add-self c =
    let moves = c.follow.new.stage.moves in
    let most = drawn-length c.args.scenario.now c.args.self.now.state (moves_of c.follow.new.stage) c.in_ok-self.field-0 c.in_ok-self.ensures.drawn in
    let back = length-reverse moves.items in
    let len = c.len.ensures in
    let all = moves.ok.0 in
    omega (arith, c.requires.room, most, back, len, all)

pub returns-clause-draws : goal.returns-clause-draws
returns-clause-draws c =
    let scene = c.args.scenario.now in
    let r = race_of scene in
    let moves = c.follow.new.stage.moves in
    let drawn = c.in_ok-self.ensures.drawn in
    let same : (one_drawn scene c.args.self.now.state).0 ≡ moves_of c.follow.new.stage = ap (λ (p : List Move × ℕ). p.0) drawn in
    record {
      state = sym (ap (λ (p : List Move × ℕ). p.1) drawn);
      asks = asks-same scene c.args.claims.now (λ k. asked_on r k (moves_of c.follow.new.stage)) (λ k. asked_on r k (one_drawn scene c.args.self.now.state).0)
          c.args.self.now.explored.judged.items c.follow.new.judged.items (λ k. ap (asked_on r k) (sym same)) c.in_ok-self.ensures.asked;
      histories = refl;
      events =
          (let back = length-reverse moves.items in
          let long = ap (λ (ms : List Move). length ms) same in
          let len = c.len.ensures in
          let all = moves.ok.0 in
          omega (arith, back, long, len, all));
      fresh = c.in_ok-restarted.ensures scene c.in_ok-self.ensures.reached;
      cut = (refl, refl);
    }
