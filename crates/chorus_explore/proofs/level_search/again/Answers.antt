use Rattle.std.proofs.Common.{◌∙◌, ap, reverse, get_or}
use Rattle.std.proofs.lemmas.Result.{err_from_is_err_and}
use Rattle.law_explore.specs.declared.moves.Move.TheVariants.{Go}
use Rattle.law_replay.specs.Shown.{race_of}
use Rattle.chorus_explore.specs.Stages.{may_go}
use Rattle.chorus_explore.proofs.Entering.{exit}
use Rattle.chorus_explore.proofs.Going.{may-next}
use Rattle.chorus_explore.proofs.level_search.again.Goals as goal

pub go-requires-clause-may : goal.go-requires-clause-may
go-requires-clause-may c =
    let s = c.args.scenario.now in
    ap (λ ms. may_go c.args.scenario.now (get_or c.args.moves.now c.loop-mv.mv-index (Go 0)) ms) (ap reverse c.loop-mv.invariant.1)
    ∙ may-next (race_of s) c.args.moves.now c.loop-mv.mv-index (Go 0) c.loop-mv-test.true c.requires.history

pub returns-in_err-go-clause-worn : goal.returns-in_err-go-clause-worn
returns-in_err-go-clause-worn c clock is =
    let p = err_from_is_err_and c.from_residual-in_err-go.result c.from_residual-in_err-go.ensures.1 in
    c.go.ensures.worn clock (exit c.from_residual-in_err-go.result c.go.result _ p.0 _ p.1 p.2 c.in_err-go.was is)
