use Rattle.chorus_sessions.proofs.Emptied.{is-emptied}
use Rattle.chorus_sessions.proofs.Kept.{none-is-lost}
use Rattle.chorus_sessions.proofs.Standing.{are-handed-out, run-of, were-delivered}
use Rattle.chorus_sessions.proofs.running.run_sessions.Goals as goal

pub returns-clause-run : goal.returns-clause-run
returns-clause-run g c = run-of c.in_ok-nucleus.nucleus c.args.layout c.play-hands.new.pass c.in_ok-closed.closed c.in_ok-nucleus.ensures.layout c.in_ok-closed.ensures

pub returns-clause-hands : goal.returns-clause-hands
returns-clause-hands g c =
    let e = c.play-hands.ensures in
    are-handed-out c.in_ok-nucleus.nucleus c.play-hands.new.pass c.in_ok-closed.closed c.in_ok-closed.ensures e.pass e.back c.in_ok-hands.hands.items c.in_ok-hands.ensures.kept

pub returns-clause-kept : goal.returns-clause-kept
returns-clause-kept g c =
    let e = c.play-hands.ensures in
    let n = c.in_ok-nucleus.nucleus in
    let pass = c.play-hands.new.pass in
    let layout = c.in_ok-nucleus.ensures.layout in
    none-is-lost n c.args.layout pass c.in_ok-closed.closed c.in_ok-hands.hands.items layout c.in_ok-closed.ensures (run-of n c.args.layout pass c.in_ok-closed.closed layout c.in_ok-closed.ensures)
    (are-handed-out n pass c.in_ok-closed.closed c.in_ok-closed.ensures e.pass e.back c.in_ok-hands.hands.items c.in_ok-hands.ensures.kept)

pub returns-clause-delivered : goal.returns-clause-delivered
returns-clause-delivered g c =
    let e = c.play-hands.ensures in
    were-delivered c.in_ok-nucleus.nucleus c.play-hands.new.pass c.in_ok-closed.closed c.in_ok-closed.ensures e.pass e.back c.in_ok-hands.hands.items c.in_ok-hands.ensures.kept

pub returns-clause-played : goal.returns-clause-played
returns-clause-played g c = record {
  nucleus = c.in_ok-nucleus.nucleus;
  opening = c.in_ok-nucleus.pass;
  closing = c.play-hands.new.pass;
  started = c.in_ok-nucleus.ensures;
  played = c.in_ok-hands.ensures.played;
  closes = c.in_ok-closed.ensures;
}

pub returns-clause-left : goal.returns-clause-left
returns-clause-left g c whole = is-emptied c.in_ok-nucleus.nucleus c.play-hands.new.pass c.in_ok-closed.closed c.in_ok-closed.ensures (c.in_ok-hands.ensures.even whole)
