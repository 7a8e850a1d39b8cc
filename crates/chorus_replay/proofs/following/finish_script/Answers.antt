use Rattle.std.proofs.Common.{◌+◌, ◌-◌, ◌<◌, ◌∙◌, length, arith}
use Rattle.std.proofs.lemmas.Result.{err_from_is_err_and}
use Rattle.chorus_net.specs.Sites.{net}
use Rattle.chorus_replay.specs.Performing.{from_script}
use Rattle.chorus_replay.specs.Waiting.{InRound}
use Rattle.chorus_replay.proofs.Going.{counted, may-do, passes, round-act-stops, round-drain-stops, round-goes}
use Rattle.chorus_replay.proofs.Loops.{exit}
use Rattle.chorus_replay.proofs.Rounds.{at-first, at-last, stands-more, waits-so, went-less, went-so}
use Rattle.chorus_replay.proofs.following.finish_script.Goals as goal

pub go_on-requires-clause-counted : goal.go_on-requires-clause-counted
go_on-requires-clause-counted c = (let scene = c.args.scenario.now in counted scene c.requires.shape c.requires.keeps (InRound (from_script scene c.args.seat)) _ _ c.loop-sites.invariant.0)

pub go_on-requires-clause-may : goal.go_on-requires-clause-may
go_on-requires-clause-may c = λ command next.
    (let scene = c.args.scenario.now in
    may-do scene c.requires.shape c.requires.keeps (InRound (from_script scene c.args.seat)) _ _ c.loop-sites.invariant.0 c.args.seat c.requires.script command next)

pub returns-in_err-go_on-clause-worn : goal.returns-in_err-go_on-clause-worn
returns-in_err-go_on-clause-worn c clock is =
    let scene = c.args.scenario.now in
    let k = c.args.seat in
    let here = at-first scene k _ _ c.requires.script c.loop-sites.invariant.0 in
    let p = err_from_is_err_and c.from_residual.result c.from_residual.ensures.1 in
    round-act-stops scene c.requires.shape c.requires.keeps k (from_script scene (k + 1)) _ _ here clock _
    (c.go_on.ensures.worn clock (exit c.from_residual.result c.go_on.result _ p.0 _ p.1 p.2 c.in_err-go_on.was is))

pub loop-sites-smaller : goal.loop-sites-smaller
loop-sites-smaller c =
    let scene = c.args.scenario.now in
    let k = c.args.seat in
    let len = counted scene c.requires.shape c.requires.keeps (InRound (from_script scene k)) _ _ c.loop-sites.invariant.0 in
    went-less scene k c.loop-sites.done.items c.go_on.new.done.items (net c.loop-sites.sites) (net c.go_on.new.sites) c.requires.script len
    (went-so scene k c.loop-sites.done.items c.go_on.new.done.items (net c.loop-sites.sites) (net c.go_on.new.sites) c.in_ok-go_on.field-0 c.if-branch.true c.in_ok-go_on.ensures.ok)

pub loop-sites-preserved : goal.loop-sites-preserved
loop-sites-preserved c =
    let scene = c.args.scenario.now in
    let k = c.args.seat in
    let here = at-first scene k _ _ c.requires.script c.loop-sites.invariant.0 in
    let len = counted scene c.requires.shape c.requires.keeps (InRound (from_script scene k)) _ _ c.loop-sites.invariant.0 in
    let low = c.requires.script.0 in
    let high = c.requires.script.1 in
    let lt : k - 1 < length c.loop-sites.done.items = omega (arith, low, high, len) in
    let went = went-so scene k c.loop-sites.done.items c.go_on.new.done.items (net c.loop-sites.sites) (net c.go_on.new.sites) c.in_ok-go_on.field-0 c.if-branch.true c.in_ok-go_on.ensures.ok in (
      at-last scene k _ _ c.requires.script
          (round-goes scene c.requires.shape c.requires.keeps k (from_script scene (k + 1)) _ _ here c.go_on.new.done.items (net c.go_on.new.sites) went (net c.drain.new.self) _ c.in_ok-drain.ensures.ok),
      stands-more scene k c.args.done.now.items c.loop-sites.done.items c.go_on.new.done.items (net c.args.sites.now) (net c.loop-sites.sites) (net c.go_on.new.sites) (net c.drain.new.self) lt c.loop-sites.invariant.1 went,
      c.in_ok-drain.ensures.mark ∙ c.in_ok-go_on.ensures.mark ∙ c.loop-sites.invariant.2,
    )

pub returns-in_err-drain-clause-worn : goal.returns-in_err-drain-clause-worn
returns-in_err-drain-clause-worn c clock is =
    let scene = c.args.scenario.now in
    let k = c.args.seat in
    let here = at-first scene k _ _ c.requires.script c.loop-sites.invariant.0 in
    let went = went-so scene k c.loop-sites.done.items c.go_on.new.done.items (net c.loop-sites.sites) (net c.go_on.new.sites) c.in_ok-go_on.field-0 c.if-branch.true c.in_ok-go_on.ensures.ok in
    let p = err_from_is_err_and c.from_residual-in_err-drain.result c.from_residual-in_err-drain.ensures.1 in
    round-drain-stops scene c.requires.shape c.requires.keeps k (from_script scene (k + 1)) _ _ here c.go_on.new.done.items (net c.go_on.new.sites) went (net c.drain.new.self) clock
    (c.drain.ensures.worn clock (exit c.from_residual-in_err-drain.result c.drain.result _ p.0 _ p.1 p.2 c.in_err-drain.was is))

pub returns-clause-ok : goal.returns-clause-ok
returns-clause-ok c =
    let scene = c.args.scenario.now in
    let k = c.args.seat in
    let here = at-first scene k _ _ c.requires.script c.loop-sites.invariant.0 in
    let waits = waits-so scene k c.loop-sites.done.items c.go_on.new.done.items (net c.loop-sites.sites) (net c.go_on.new.sites) c.in_ok-go_on.field-0 c.if-branch.false c.in_ok-go_on.ensures.ok in
    passes scene c.requires.shape c.requires.keeps k (from_script scene (k + 1)) c.loop-sites.done.items c.go_on.new.done.items (net c.loop-sites.sites) (net c.go_on.new.sites) here waits
