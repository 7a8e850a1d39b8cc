use Rattle.std.proofs.Common.{◌∷◌, [], ◌++◌, arith}
use Rattle.chorus_run.proofs.ReportParts.Written.{appends-more, first-cut, one-more, stops-in}
use Rattle.chorus_run.proofs.report_parts.writing.write_parts.Goals as goal

pub returns-in_err-write_all-clause-prefix : goal.returns-in_err-write_all-clause-prefix
returns-in_err-write_all-clause-prefix g c =
    let done = c.loop-rest.invariant in
    let part = c.part-item.result in
    let cut = first-cut c.loop-rest.rest.now part c.in-len1-up.len_at_least c.part-item.is in
    stops-in _ _ _ c.args.parts.now c.loop-rest.rest.now _ done.0 part _ done.1 cut c.deref.ensures.value done.2 c.in_err-write_all.ensures.prefix

pub loop-rest-preserved : goal.loop-rest-preserved
loop-rest-preserved g c =
    let done = c.loop-rest.invariant in
    let part = c.part-item.result in
    let cut = first-cut c.loop-rest.rest.now part c.in-len1-up.len_at_least c.part-item.is in (
      done.0 ++ part ∷ [],
      one-more c.args.parts.now c.loop-rest.rest.now _ done.0 part done.1 cut,
      appends-more _ _ _ done.0 part _ c.deref.ensures.value done.2 c.in_ok-write_all.ensures.ok,
      omega (arith, done.3, c.in_ok-write_all.ensures.never_falls),
    )
