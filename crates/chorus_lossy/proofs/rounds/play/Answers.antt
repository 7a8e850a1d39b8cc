use Rattle.std.proofs.Common.{◌≡◌, ◌≢◌, length, refl, subst, arith}
use Rattle.chorus_lossy.specs.Line.{ends}
use Rattle.chorus_lossy.specs.Rounds.{filled, all_sent, released, all_delivered}
use Rattle.chorus_lossy.specs.Running.{IsAt}
use Rattle.chorus_lossy.proofs.Growth.{between, grows-same, grows-then, grows-filled, grows-all_sent, grows-released, grows-round-filled, grows-round-sent, grows-round-released, grows-round-delivered}
use Rattle.chorus_lossy.proofs.Running.{on_err}
use Rattle.chorus_lossy.proofs.Promised.{open_at, done_at, round_done, round_open}
use Rattle.chorus_lossy.proofs.rounds.play.Goals as goal

pub returns-in_err-fill-clause-err : goal.returns-in_err-fill-clause-err
returns-in_err-fill-clause-err c = λ m e.
    on_err c.from_residual.result
    (between (ends c.fill.new.sender c.args.receiver.now) (grows-same m m refl refl) (grows-round-filled c.args.bytes.now c.args.number m)
    (c.in_err-fill.ensures.err m c.args.run.now c.args.receiver.now e))

pub returns-in_err-send-clause-err : goal.returns-in_err-send-clause-err
returns-in_err-send-clause-err c = λ m e.
    let bytes = c.args.bytes.now in
    let e1 = c.in_ok-fill.ensures.ok m c.args.run.now c.args.receiver.now e in
    on_err c.from_residual-in_err-send.result
    (between (ends c.fill.new.sender c.send.new.receiver) (grows-filled bytes m) (grows-round-sent bytes c.args.number m)
    (c.in_err-send.ensures.err (filled bytes m) e1))

pub returns-in_err-release-clause-err : goal.returns-in_err-release-clause-err
returns-in_err-release-clause-err c = λ m e.
    let bytes = c.args.bytes.now in
    let n = c.args.number in
    let s = c.fill.new.sender in
    let e1 = c.in_ok-fill.ensures.ok m c.args.run.now c.args.receiver.now e in
    let e2 = c.in_ok-send.ensures.ok (filled bytes m) e1 in
    on_err c.from_residual-in_err-release.result
    (between (ends s c.release.new.receiver) (grows-then (grows-filled bytes m) (grows-all_sent n (filled bytes m))) (grows-round-released bytes n m)
    (c.in_err-release.ensures.err (all_sent n (filled bytes m)) s e2))

pub returns-in_err-deliver-clause-err : goal.returns-in_err-deliver-clause-err
returns-in_err-deliver-clause-err c = λ m e.
    let bytes = c.args.bytes.now in
    let n = c.args.number in
    let s = c.fill.new.sender in
    let m1 = filled bytes m in
    let m2 = all_sent n m1 in
    let e1 = c.in_ok-fill.ensures.ok m c.args.run.now c.args.receiver.now e in
    let e2 = c.in_ok-send.ensures.ok m1 e1 in
    let e3 = c.in_ok-release.ensures.ok m2 s e2 in
    on_err c.from_residual-in_err-deliver.result
    (between (ends s c.deliver.new.receiver) (grows-then (grows-then (grows-filled bytes m) (grows-all_sent n m1)) (grows-released m2)) (grows-round-delivered bytes n m)
    (c.in_err-deliver.ensures.err (released m2) s e3))

pub returns-then-len-bytes-clause-ok : goal.returns-then-len-bytes-clause-ok
returns-then-len-bytes-clause-ok c = λ m e.
    let bytes = c.args.bytes.now in
    let n = c.args.number in
    let s = c.fill.new.sender in
    let run = c.deliver.new.run in
    let m1 = filled bytes m in
    let m2 = all_sent n m1 in
    let m3 = released m2 in
    let m4 = all_delivered m3 in
    let e1 = c.in_ok-fill.ensures.ok m c.args.run.now c.args.receiver.now e in
    let e2 = c.in_ok-send.ensures.ok m1 e1 in
    let e3 = c.in_ok-release.ensures.ok m2 s e2 in
    let e4 = c.in_ok-deliver.ensures.ok m3 s e3 in
    let other : length run.delivered.items ≢ length bytes = λ same. omega (arith, run.delivered.ok.0) in
    subst (λ x. IsAt x c.acknowledge.new.run c.acknowledge.new.sender c.deliver.new.receiver) (round_open bytes n m (open_at bytes m4 run s c.deliver.new.receiver e4 other))
    (c.acknowledge.ensures.ok m4 e4)

pub returns-else-len-bytes-clause-ok : goal.returns-else-len-bytes-clause-ok
returns-else-len-bytes-clause-ok c = λ m e.
    let bytes = c.args.bytes.now in
    let n = c.args.number in
    let s = c.fill.new.sender in
    let run = c.deliver.new.run in
    let m1 = filled bytes m in
    let m2 = all_sent n m1 in
    let m3 = released m2 in
    let m4 = all_delivered m3 in
    let e1 = c.in_ok-fill.ensures.ok m c.args.run.now c.args.receiver.now e in
    let e2 = c.in_ok-send.ensures.ok m1 e1 in
    let e3 = c.in_ok-release.ensures.ok m2 s e2 in
    let e4 = c.in_ok-deliver.ensures.ok m3 s e3 in
    let same : length run.delivered.items ≡ length bytes = omega (arith, run.delivered.ok.0) in
    subst (λ x. IsAt x run s c.deliver.new.receiver) (round_done bytes n m (done_at bytes m4 run s c.deliver.new.receiver e4 same)) e4
