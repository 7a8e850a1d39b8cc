use Rattle.std.proofs.Common.{suc, [], Ok, Err, refl, arith, rules}
use Rattle.chorus_choose.specs.Looking.{ports_of}
use Rattle.chorus_choose.specs.Rounds.{IsReceive, rounds}
use Rattle.chorus_choose.proofs.Asking.{looked-none, after-rounds, round-more, waited-more, waited-none}
use Rattle.chorus_choose.proofs.chooser.Chooser.wait_receive.Goals as goal

pub loop-init : goal.loop-init
loop-init g c = record {
  bell = refl;
  n = 0;
  parks = refl;
  waited = waited-none (ports_of c.args.self.now) c.args.pass.now c.args.waiter.now;
  looked = looked-none c.args.nucleus.now c.args.pass.now c.requires;
}

pub returns-in-Err-clause-rounds : goal.returns-in-Err-clause-rounds
returns-in-Err-clause-rounds g c =
    let i = c.loop.invariant in
    let ports = ports_of c.args.self.now in (
      i.n,
      i.waited,
      record {
        parks = tt;
        last = after-rounds c.args.nucleus.now (rounds i.n ports) ports (Err c.in-Err.fault) c.args.pass.now c.loop.pass c.round.new.pass i.looked c.in-Err.ensures.round;
      },
    )

pub returns-in-Taken-clause-rounds : goal.returns-in-Taken-clause-rounds
returns-in-Taken-clause-rounds g c =
    let i = c.loop.invariant in
    let ports = ports_of c.args.self.now in
    let r : IsReceive c.args.nucleus.now [] ports (Ok c.in-Ok.received) c.loop.pass c.round.new.pass = c.in-Ok.ensures.round in
    let s = rw c.in-Taken.is at r in (
      i.n,
      i.waited,
      record {
        parks = i.parks;
        last = after-rounds c.args.nucleus.now (rounds i.n ports) ports _ c.args.pass.now c.loop.pass c.round.new.pass i.looked s;
      },
    )

pub loop-preserved : goal.loop-preserved
loop-preserved g c =
    let i = c.loop.invariant in
    let ports = ports_of c.args.self.now in
    let r : IsReceive c.args.nucleus.now [] ports (Ok c.in-Ok.received) c.loop.pass c.round.new.pass = c.in-Ok.ensures.round in
    let s = rw c.in-Empty.is at r in
    let looked = round-more c.args.nucleus.now (rounds i.n ports) ports _ c.args.pass.now c.loop.pass c.round.new.pass i.looked s in
    record {
      bell = search rules;
      n = suc i.n;
      parks = omega (arith, i.parks, c.saturating_add-parks.ensures);
      waited = waited-more c.args.nucleus.now i.n ports c.args.pass.now c.round.new.pass c.args.waiter.now c.loop.waiter c.wait_behind.new.self i.waited looked c.wait_behind.ensures.noted;
      looked = looked;
    }
