use Rattle.std.proofs.Common.{rules}
use Rattle.std.proofs.lemmas.List.{take_rest}
use Rattle.chorus_io.proofs.Progress.{Appends-at, AppendsPrefix-at}
use Rattle.chorus_io.proofs.writing.write_all.Goals as goal

pub returns-in_err-at-clause-prefix : goal.returns-in_err-at-clause-prefix
returns-in_err-at-clause-prefix g c = AppendsPrefix-at _ _ _ _ _ c.loop-at.invariant.grown c.in_err-at.ensures.prefix

pub loop-at-preserved : goal.loop-at-preserved
loop-at-preserved g c = record {
  in_range = search rules;
  grown = Appends-at _ _ _ _ _ _ c.loop-at.invariant.grown (simp take_rest at c.in_ok-at.ensures.prefix);
  never_falls = search rules;
}
