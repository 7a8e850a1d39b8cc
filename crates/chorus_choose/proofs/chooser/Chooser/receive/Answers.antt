use Rattle.std.proofs.Common.{◌≡◌, ◌+◌, ◌<◌, List, [], Ok, Err, arith, sym, subst, length, take, ap, rules}
use Rattle.chorus_choose.specs.declared.chooser.Enabled.{Enabled}
use Rattle.chorus_choose.specs.declared.received.Received.TheVariants as receives
use Rattle.chorus_choose.specs.Looking.{ports_of}
use Rattle.chorus_choose.specs.Rounds.{IsReceive}
use Rattle.chorus_choose.proofs.Asking.{Looked, in-vain, gives, stops}
use Rattle.chorus_choose.proofs.chooser.Chooser.receive.Goals as goal

pub returns-in-Some : goal.returns-in-Some
returns-in-Some c =
    let xs : List Enabled = c.self.inside.enabled.items in
    let v : c.args.self.now ≡ xs = search rules in
    let h : c.loop-looked.looked < length xs = omega (arith, c.loop-looked-test.true) in
    let m : Looked c.args.nucleus.now (ports_of (take c.loop-looked.looked xs)) c.args.pass.now c.loop-looked.pass =
    subst (λ (l : List Enabled). Looked c.args.nucleus.now (ports_of (take c.loop-looked.looked l)) c.args.pass.now c.loop-looked.pass) v c.loop-looked.invariant.looked in
    subst (λ (l : List Enabled). IsReceive c.args.nucleus.now [] (ports_of l) (Ok (receives.Taken c.index.result.now.port c.in-Some.taken.position c.in-Some.taken.message c.in-Some.taken.settled)) c.args.pass.now c.take_once.new.pass) (sym v)
    (gives c.args.nucleus.now xs c.loop-looked.looked c.index.result.now c.args.pass.now c.loop-looked.pass c.take_once.new.pass h c.index.ensures m c.in-Ok.answer c.in-Some.taken (sym c.in-Some.ensures) c.in-Ok.ensures)

pub returns-in-Err : goal.returns-in-Err
returns-in-Err c =
    let xs : List Enabled = c.self.inside.enabled.items in
    let v : c.args.self.now ≡ xs = search rules in
    let h : c.loop-looked.looked < length xs = omega (arith, c.loop-looked-test.true) in
    let m : Looked c.args.nucleus.now (ports_of (take c.loop-looked.looked xs)) c.args.pass.now c.loop-looked.pass =
    subst (λ (l : List Enabled). Looked c.args.nucleus.now (ports_of (take c.loop-looked.looked l)) c.args.pass.now c.loop-looked.pass) v c.loop-looked.invariant.looked in
    subst (λ (l : List Enabled). IsReceive c.args.nucleus.now [] (ports_of l) (Err c.in-Err.fault) c.args.pass.now c.take_once.new.pass) (sym v)
    (stops c.args.nucleus.now xs c.loop-looked.looked c.index.result.now c.args.pass.now c.loop-looked.pass c.take_once.new.pass h c.index.ensures m c.in-Err.fault c.in-Err.ensures)

pub loop-looked-preserved : goal.loop-looked-preserved
loop-looked-preserved c =
    let xs : List Enabled = c.self.inside.enabled.items in
    let v : c.args.self.now ≡ xs = search rules in
    let h : c.loop-looked.looked < length xs = omega (arith, c.loop-looked-test.true) in
    let m : Looked c.args.nucleus.now (ports_of (take c.loop-looked.looked xs)) c.args.pass.now c.loop-looked.pass =
    subst (λ (l : List Enabled). Looked c.args.nucleus.now (ports_of (take c.loop-looked.looked l)) c.args.pass.now c.loop-looked.pass) v c.loop-looked.invariant.looked in
    let v_len : length c.args.self.now ≡ length xs = ap length v in
    record {
      within = omega (arith, h, v_len);
      looked = subst (λ (l : List Enabled). Looked c.args.nucleus.now (ports_of (take (c.loop-looked.looked + 1) l)) c.args.pass.now c.take_once.new.pass) (sym v)
          (in-vain c.args.nucleus.now xs c.loop-looked.looked c.index.result.now c.args.pass.now c.loop-looked.pass c.take_once.new.pass h c.index.ensures m c.in-Ok.answer (sym c.in_default.ensures) c.in-Ok.ensures);
    }
