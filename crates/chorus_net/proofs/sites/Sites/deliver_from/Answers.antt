use Rattle.std.proofs.Common.{◌≡◌, ◌+◌, ◌-◌, ◌≤◌, suc, Err, sym, ◌∙◌, ap, subst, arith}
use Rattle.std.proofs.lemmas.Result.{MatchResult-from_err, err_from_is_err_and}
use Rattle.chorus_place.specs.declared.fault.PlaceFault.TheVariants as faults
use Rattle.chorus_ui.specs.Layout.{places}
use Rattle.law_network.specs.Network.{numbers, from_one}
use Rattle.chorus_net.specs.Drains.{Goes, puts_forward, AnyCause, ComparesWorn}
use Rattle.chorus_net.specs.Room.{UsesRoom}
use Rattle.chorus_net.specs.Sites.{net}
use Rattle.chorus_net.proofs.Deliveries.{fault-in}
use Rattle.chorus_net.proofs.Rounds.{row-stops, idle-place, row-on, uses-row}
use Rattle.chorus_net.proofs.sites.Sites.deliver_from.Goals as goal

pub returns-then-is_idle-clause-ok : goal.returns-then-is_idle-clause-ok
returns-then-is_idle-clause-ok c = idle-place c.args.self.now.layout c.args.from (net c.args.self.now) (c.is_idle.ensures.idle c.if-is_idle.true)

pub returns-in_err-served-clause-stopped : goal.returns-in_err-served-clause-stopped
returns-in_err-served-clause-stopped c =
    let i = c.loop-to.invariant in
    let low = i.low in
    let t = c.loop-to-test.true in
    let v : c.places-count.result ≡ places c.args.self.now.layout = c.places-count.ensures.value ∙ ap places c.layout.ensures.value in
    let is : c.loop-to.to ≡ 1 + (c.loop-to.to - 1) = omega (arith, low) in
    let le : c.loop-to.to ≤ places c.args.self.now.layout = omega (arith, t, v) in
    MatchResult-from_err c.from_residual.result _ _ c.from_residual.ensures.0 (λ _.
    row-stops AnyCause c.args.from (c.loop-to.to - 1) c.loop-to.to (places c.args.self.now.layout) c.args.self.now c.loop-to.self c.serve.new.self c.loop-to.served is le i.goes i.room
    c.in_err-served.ensures.stopped)

pub loop-to-preserved : goal.loop-to-preserved
loop-to-preserved c =
    let i = c.loop-to.invariant in
    let low = i.low in
    let t = c.loop-to-test.true in
    let n = c.loop-to.to - 1 in
    let b : c.loop-to.to ≡ 1 + (c.loop-to.to - 1) = omega (arith, low) in
    let e : suc (c.loop-to.to - 1) ≡ c.loop-to.to + 1 - 1 = omega (arith, low) in
    record {
      low = omega arith;
      high = omega (arith, t);
      goes = subst (λ k. Goes (from_one 0 c.args.from (numbers k 1)) (net c.args.self.now) (net c.serve.new.self) (c.loop-to.served + c.in_ok-served.field-0)) e
          (row-on c.args.from (c.loop-to.to - 1) c.loop-to.to (net c.args.self.now) (net c.loop-to.self) (net c.serve.new.self) c.loop-to.served c.in_ok-served.field-0 b i.goes c.in_ok-served.ensures.ok);
      room = subst (λ k. UsesRoom (puts_forward (from_one 0 c.args.from (numbers k 1)) (net c.args.self.now)) c.args.self.now.places c.serve.new.self.places) e
          (uses-row c.args.from (c.loop-to.to - 1) c.loop-to.to c.loop-to.served c.args.self.now c.loop-to.self c.serve.new.self b i.goes i.room c.in_ok-served.ensures.room);
      layout = c.in_ok-served.ensures.layout ∙ i.layout;
      mark = c.in_ok-served.ensures.mark ∙ i.mark;
    }

pub returns-clause-ok : goal.returns-clause-ok
returns-clause-ok c =
    let i = c.loop-to.invariant in
    let high = i.high in
    let f = c.loop-to-test.false in
    let v : c.places-count.result ≡ places c.args.self.now.layout = c.places-count.ensures.value ∙ ap places c.layout.ensures.value in
    let e : c.loop-to.to - 1 ≡ places c.args.self.now.layout = omega (arith, high, f, v) in
    subst (λ k. Goes (from_one 0 c.args.from (numbers k 1)) (net c.args.self.now) (net c.loop-to.self) c.loop-to.served) e i.goes

pub returns-clause-room : goal.returns-clause-room
returns-clause-room c =
    let i = c.loop-to.invariant in
    let high = i.high in
    let f = c.loop-to-test.false in
    let v : c.places-count.result ≡ places c.args.self.now.layout = c.places-count.ensures.value ∙ ap places c.layout.ensures.value in
    let e : c.loop-to.to - 1 ≡ places c.args.self.now.layout = omega (arith, high, f, v) in
    subst (λ k. UsesRoom (puts_forward (from_one 0 c.args.from (numbers k 1)) (net c.args.self.now)) c.args.self.now.places c.loop-to.self.places) e i.room

pub returns-in_err-served-clause-worn : goal.returns-in_err-served-clause-worn
returns-in_err-served-clause-worn c = λ clock e.
    let p = err_from_is_err_and c.from_residual.result c.from_residual.ensures.1 in
    let a = p.1 in
    let b = p.2 in
    let was = c.in_err-served.was in
    let w : c.serve.result ≡ Err (faults.Worn clock) = was ∙ ap Err (sym b ∙ ap (λ z. fault-in z (faults.Worn clock)) (sym a ∙ e)) in
    let i = c.loop-to.invariant in
    let low = i.low in
    let t = c.loop-to-test.true in
    let v : c.places-count.result ≡ places c.args.self.now.layout = c.places-count.ensures.value ∙ ap places c.layout.ensures.value in
    let is : c.loop-to.to ≡ 1 + (c.loop-to.to - 1) = omega (arith, low) in
    let le : c.loop-to.to ≤ places c.args.self.now.layout = omega (arith, t, v) in
    row-stops (ComparesWorn clock) c.args.from (c.loop-to.to - 1) c.loop-to.to (places c.args.self.now.layout) c.args.self.now c.loop-to.self c.serve.new.self c.loop-to.served is le i.goes i.room
    (c.serve.ensures.worn clock w)
